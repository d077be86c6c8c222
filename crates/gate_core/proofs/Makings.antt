-- Lists that are made one element after another, by number.
use Rattle.std.proofs.Common.{◌≡◌, ◌∙◌, sym, ap, refl, subst, ℕ, ◌+◌, List, [], ◌∷◌, ◌++◌, length, map, arith}
use Rattle.std.specs.List.{range_with_len}
use Rattle.std.proofs.lemmas.List.{length-map, map-append}
use Rattle.std.proofs.lemmas.List.FromFn.{length-map-range_with_len, map-range_with_len_more}
use Rattle.gate_core.specs.Views.{EachAt}
use Rattle.gate_core.proofs.Elements.{each_push}

module _ {X S : Type 0} (view : X → S) (made : ℕ → S) (has : ℕ → X → Type 0) where
  -- so many are made: each has what it is to have, and they look like this
  pub record AreMade (n : ℕ) (xs : List X) : Type 0 where
    pub each : EachAt has xs
    pub seen : map view xs ≡ map made (range_with_len 0 n)

  how_many : (n : ℕ) (xs : List X) → AreMade n xs → n ≡ length xs
  how_many n xs are = sym (length-map-range_with_len made 0 n) ∙ sym (ap length are.seen) ∙ length-map xs view

  one_made_behind : {n : ℕ} {xs : List X} (x : X) → AreMade n xs → has n x → view x ≡ made n → AreMade (n + 1) (xs ++ x ∷ [])
  one_made_behind {n} {xs} x are here same = record {
    each = each_push has xs x are.each (subst (λ k. has k x) (how_many n xs are) here);
    seen = map-append view xs (x ∷ []) ∙ ap (λ ys. ys ++ view x ∷ []) are.seen ∙ ap (λ y. map made (range_with_len 0 n) ++ y ∷ []) same ∙ sym (map-range_with_len_more made 0 n n (omega arith));
  }

  pub one_made : {n : ℕ} {xs ys : List X} (x : X) → ys ≡ xs ++ x ∷ [] → AreMade n xs → has n x → view x ≡ made n → AreMade (n + 1) ys
  one_made {n} x behind are here same = subst (AreMade (n + 1)) (sym behind) (one_made_behind x are here same)

-- the same for each element of a list is the same for each number below its length
pub same_for_each : {X S : Type 0} (made : S) (xs : List X) (a : ℕ) → map (λ _. made) (range_with_len a (length xs)) ≡ map (λ _. made) xs
same_for_each made [] a = refl
same_for_each made (x ∷ xs) a = ap (λ ys. made ∷ ys) (same_for_each made xs (a + 1))
