-- Numbers that rise along a list, and what a binary search finds among them.
use Rattle.std.proofs.Common.{◌≡◌, ◌∙◌, ◌+◌, ◌<◌, ◌≤◌, ℕ, List, [], ◌∷◌, ◌++◌, Bool, true, false, cond, Some, None, length, suc, zero, take, drop, get_or, map, nat_eq, nat_lt, refl, sym, ap, arith, subst, Ok, Err}
use Rattle.std.specs.List.{position, position_or_len}
use Rattle.std.specs.List.Sorted.{IsBinarySearchResult, IsNonDecreasingBy}
use Rattle.std.specs.Ordering.{nat_cmp, ordering_index}
use Rattle.std.proofs.lemmas.Bool.{eq-eqb, eqb-false, eqb-true, le-ltb, lt-ltb, ltb-false, ltb-true, ne_eqb}
use Rattle.std.proofs.lemmas.Bool.Decides.{nat_tests}
use Rattle.std.proofs.lemmas.Cmp.{ranked}
use Rattle.std.proofs.lemmas.List.Sums.{position_or_len_is}
use Rattle.gate_items.specs.Inner.Ring.{Rise}

pub rise_le : (low high : ℕ) (ns : List ℕ) → Rise low high ns → low ≤ high
rise_le low high [] r = r
rise_le low high (n ∷ ns) r = let more : n + 1 ≤ high = rise_le (n + 1) high ns r.1 in omega (arith, r.0, more)

pub rise_more : (low high more : ℕ) (ns : List ℕ) → high ≤ more → Rise low high ns → Rise low more ns
rise_more low high more [] h r = omega (arith, h, r)
rise_more low high more (n ∷ ns) h r = (r.0, rise_more (n + 1) high more ns h r.1)

pub rise_from : (low up high : ℕ) (ns : List ℕ) → low ≤ up → Rise up high ns → Rise low high ns
rise_from low up high [] h r = omega (arith, h, r)
rise_from low up high (n ∷ ns) h r = (omega (arith, h, r.0), r.1)

pub rise_join : (low mid high : ℕ) (ns ms : List ℕ) → Rise low mid ns → Rise mid high ms → Rise low high (ns ++ ms)
rise_join low mid high [] ms r s = rise_from low mid high ms r s
rise_join low mid high (n ∷ ns) ms r s = (r.0, rise_join (n + 1) mid high ns ms r.1 s)

pub rise_take : (k low high : ℕ) (ns : List ℕ) → Rise low high ns → Rise low high (take k ns)
rise_take zero low high ns r = rise_le low high ns r
rise_take (suc k) low high [] r = r
rise_take (suc k) low high (n ∷ ns) r = (r.0, rise_take k (n + 1) high ns r.1)

pub rise_without : (k low high : ℕ) (ns : List ℕ) → Rise low high ns → Rise low high (take k ns ++ drop (suc k) ns)
rise_without zero low high [] r = r
rise_without zero low high (n ∷ ns) r = rise_from low (n + 1) high ns (omega (arith, r.0)) r.1
rise_without (suc k) low high [] r = r
rise_without (suc k) low high (n ∷ ns) r = (r.0, rise_without k (n + 1) high ns r.1)

pub rise_last : (low high : ℕ) (ns : List ℕ) → Rise low high ns → Rise low (high + 1) (ns ++ high ∷ [])
rise_last low high ns r = let one : Rise high (high + 1) (high ∷ []) = (omega arith, omega arith) in rise_join low high (high + 1) ns (high ∷ []) r one

-- nothing that is meant stands anywhere
pub nowhere : {X : Type 0} (test : X → Bool) (xs : List X) → ((k : ℕ) (d : X) → k < length xs → test (get_or xs k d) ≡ false) → position test xs ≡ None
nowhere test [] h = refl
nowhere test (x ∷ xs) h =
    let all : position_or_len test (x ∷ xs) ≡ length (x ∷ xs) = position_or_len_is test (x ∷ xs) (length (x ∷ xs)) x (omega arith) (λ k less. h k x less) (λ inside. absurd (omega (arith, inside))) in
    ap (λ k. cond (nat_lt k (length (x ∷ xs))) (Some k) None) all ∙ ap (λ b. cond b (Some (length (x ∷ xs))) None) (le-ltb (length (x ∷ xs)) (length (x ∷ xs)) (omega arith))

module _ {X : Type 0} (f : X → ℕ) where
  low_at : (low high : ℕ) (xs : List X) → Rise low high (map f xs) → (j : ℕ) (d : X) → j < length xs → low ≤ f (get_or xs j d)
  low_at low high [] r j d h = absurd (omega (arith, h))
  low_at low high (x ∷ xs) r zero d h = r.0
  low_at low high (x ∷ xs) r (suc j) d h = let more : f x + 1 ≤ f (get_or xs j d) = low_at (f x + 1) high xs r.1 j d (omega (arith, h)) in omega (arith, more, r.0)

  rise_lt : (low high : ℕ) (xs : List X) → Rise low high (map f xs) → (i j : ℕ) (d : X) → i < j → j < length xs → f (get_or xs i d) < f (get_or xs j d)
  rise_lt low high [] r i j d less h = absurd (omega (arith, h))
  rise_lt low high (x ∷ xs) r i zero d less h = absurd (omega (arith, less))
  rise_lt low high (x ∷ xs) r zero (suc j) d less h = let more : f x + 1 ≤ f (get_or xs j d) = low_at (f x + 1) high xs r.1 j d (omega (arith, h)) in omega (arith, more)
  rise_lt low high (x ∷ xs) r (suc i) (suc j) d less h = rise_lt (f x + 1) high xs r.1 i j d (omega (arith, less)) (omega (arith, h))

  module _ (n low high : ℕ) (xs : List X) (r : Rise low high (map f xs)) (test : X → Bool) (says : (x : X) → test x ≡ nat_eq (f x) n) where
    answers_rise : IsNonDecreasingBy (λ x. ordering_index (nat_cmp (f x) n)) xs
    answers_rise i j d le h =
        let keys : f (get_or xs i d) ≤ f (get_or xs j d) = by (nat_eq i j) refl in
        grind (arith, nat_tests)
      where
        by : (b : Bool) → nat_eq i j ≡ b → f (get_or xs i d) ≤ f (get_or xs j d)
        by true e = let same : i ≡ j = eqb-true i j e in subst (λ k. f (get_or xs i d) ≤ f (get_or xs k d)) same (omega arith)
        by false e = let less : f (get_or xs i d) < f (get_or xs j d) = rise_lt low high xs r i j d (omega (arith, le, eqb-false i j e)) h in omega (arith, less)

    pub found_place : (d : X) (i : ℕ) → i < length xs → IsBinarySearchResult (λ x. nat_cmp (f x) n) xs (Ok i) → Some i ≡ position test xs
    found_place d i h found =
        let here : f (get_or xs i d) ≡ n = ranked (f (get_or xs i d)) n _ (sym (found d)) in
        let first : position_or_len test xs ≡ i = position_or_len_is test xs i d (omega (arith, h))
        (λ k less. let lower : f (get_or xs k d) < f (get_or xs i d) = rise_lt low high xs r k i d less h in says (get_or xs k d) ∙ ne_eqb (f (get_or xs k d)) n (λ same. omega (arith, same, lower, here)))
        (λ inside. says (get_or xs i d) ∙ eq-eqb (f (get_or xs i d)) n here) in
        sym (ap (λ k. cond (nat_lt k (length xs)) (Some k) None) first ∙ ap (λ b. cond b (Some i) None) (lt-ltb i (length xs) h))

    pub no_place : (i : ℕ) → IsBinarySearchResult (λ x. nat_cmp (f x) n) xs (Err i) → None ≡ position test xs
    no_place i parted = sym (nowhere test xs (λ k d h. says (get_or xs k d) ∙ ne_eqb (f (get_or xs k d)) n (other k d h)))
      where
        other : (k : ℕ) (d : X) → k < length xs → f (get_or xs k d) ≡ n → ⊥
        other k d h same = by (nat_lt k i) refl
          where
            by : (b : Bool) → nat_lt k i ≡ b → ⊥
            by true e = let less : f (get_or xs k d) < n = ranked (f (get_or xs k d)) n _ (sym ((parted answers_rise).0 k d (omega arith) (ltb-true k i e))) in omega (arith, less, same)
            by false e = let more : n < f (get_or xs k d) = ranked (f (get_or xs k d)) n _ (sym ((parted answers_rise).1 k d (ltb-false k i e) h)) in omega (arith, more, same)
