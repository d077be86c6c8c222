-- Keys that are seen through a view, as the texts behind references.
use Rattle.std.proofs.Common.{◌≡◌, ◌∙◌, ℕ, ℤ, ◌+◌, ◌≤◌, ◌||◌, List, [], ◌∷◌, ◌++◌, Bool, true, false, cond, Option, Some, None, Bor, length, map, refl, ap, arith, if◌then◌else◌}
use Rattle.std.specs.Prelude.{not, unwrap_or, nat_lt, position}
use Rattle.std.specs.List.{list_any, position_or_len}
use Rattle.std.proofs.lemmas.List.{map-append}
use Rattle.std.proofs.lemmas.Bool.{ltb-false}
use Rattle.std.proofs.lemmas.List.Sums.{prefix_len-le-length}
use Rattle.indexmap.specs.IndexSet.{insert_key}

pub found_seen : {A K : Type 0} (v : K → A) (p : A → Bool) (keys : List K) → list_any (λ k. p (v k)) keys ≡ list_any p (map v keys)
found_seen v p [] = refl
found_seen v p (k ∷ keys) = ap (λ b. p (v k) || b) (found_seen v p keys)

pub place_seen : {A K : Type 0} (v : K → A) (p : A → Bool) (keys : List K) → position_or_len (λ k. p (v k)) keys ≡ position_or_len p (map v keys)
place_seen v p [] = refl
place_seen v p (k ∷ keys) = ap (λ n. cond (not (p (v k))) (1 + n) 0) (place_seen v p keys)

pub insert_seen : {A K : Type 0} (v : K → A) (same : A → A → Bool) (keys : List K) (key : K) → map v (insert_key (λ k l. same (v k) (v l)) keys key) ≡ insert_key same (map v keys) (v key)
insert_seen v same keys key =
    by (list_any (λ l. same (v key) (v l)) keys) ∙ ap (λ b. if b then map v keys else map v keys ++ v key ∷ []) (found_seen v (same (v key)) keys)
  where
    by : (b : Bool) → map v (if b then keys else keys ++ key ∷ []) ≡ (if b then map v keys else map v keys ++ v key ∷ [])
    by true = refl
    by false = map-append v keys (key ∷ [])

-- the place that is found, or else the length
place_or_len : {A : Type 0} (p : A → Bool) (keys : List A) → unwrap_or (position p keys) (length keys) ≡ position_or_len p keys
place_or_len p keys = by (nat_lt (position_or_len p keys) (length keys)) refl
  where
    by : (b : Bool) → nat_lt (position_or_len p keys) (length keys) ≡ b → unwrap_or (cond b (Some (position_or_len p keys)) None) (length keys) ≡ position_or_len p keys
    by true e = refl
    by false e =
        let end : length keys ≤ position_or_len p keys = ltb-false _ _ e in
        let most : position_or_len p keys ≤ length keys = prefix_len-le-length (λ k. not (p k)) keys in
        omega arith

-- and so where both are known by an equation
pub place_by : {A : Type 0} (p : A → Bool) (keys : List A) (found : Option ℕ) (end place : ℕ) → place ≡ unwrap_or found end → found ≡ position p keys → end ≡ length keys → place ≡ position_or_len p keys
place_by p keys found end place is found_is end_is =
    is ∙ ap (λ o. unwrap_or o end) found_is ∙ ap (unwrap_or (position p keys)) end_is ∙ place_or_len p keys

-- a vote's category and number
abbrev pub vote_of : Bor (List ℕ) × ℤ → List ℕ × ℤ
vote_of vote = (vote.0.now, vote.1)
