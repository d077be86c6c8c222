-- What one receiver has of items that were made for many, each with the number of the receiver that it goes to.
use Rattle.std.proofs.Common.{◌≡◌, ◌∙◌, refl, ap, ℕ, zero, suc, ◌+◌, ◌<◌, ◌==◌, List, [], ◌++◌, Bool, true, false, Option, Some, None, option_map, if◌then◌else◌, append-nil, arith, eqb-true}
use Rattle.std.proofs.lemmas.Bool.{eq-eqb}
use Rattle.std.specs.List.{cons_option, filter_map, range_with_len}
use Rattle.std.specs.Option.{option_to_list}

differs : (a n : ℕ) → (a ≡ n → ⊥) → (a == n) ≡ false
differs a n other = by (a == n) refl
  where
    by : (b : Bool) → (a == n) ≡ b → (a == n) ≡ false
    by true e = absurd (other (eqb-true a n e))
    by false e = e

-- the item for a receiver, with its number; what a receiver has of one; and what each receiver gets, if it gets anything
module _ {Item Sent : Type 0} (sent : ℕ → Item → Sent) (had : ℕ → Sent → Option Item) (is : (n m : ℕ) (item : Item) → had n (sent m item) ≡ (if m == n then Some item else None)) (gets : ℕ → Option Item) where
  -- what the receivers from number a on get
  abbrev all_from : ℕ → ℕ → List Sent
  all_from a count = filter_map (λ m. option_map (sent m) (gets m)) (range_with_len a count)

  mine : (n m : ℕ) (o : Option Item) (rest : List Sent) → (m == n) ≡ true → filter_map (had n) (cons_option (option_map (sent m) o) rest) ≡ option_to_list o ++ filter_map (had n) rest
  mine n m None rest e = refl
  mine n m (Some item) rest e = ap (λ o. cons_option o (filter_map (had n) rest)) (is n m item ∙ ap (λ b. if b then Some item else None) e)

  others : (n m : ℕ) (o : Option Item) (rest : List Sent) → (m == n) ≡ false → filter_map (had n) (cons_option (option_map (sent m) o) rest) ≡ filter_map (had n) rest
  others n m None rest e = refl
  others n m (Some item) rest e = ap (λ o. cons_option o (filter_map (had n) rest)) (is n m item ∙ ap (λ b. if b then Some item else None) e)

  none_behind : (n a count : ℕ) → n < a → filter_map (had n) (all_from a count) ≡ []
  none_behind n a zero h = refl
  none_behind n a (suc count) h =
      others n a (gets a) (all_from (a + 1) count) (differs a n (λ e. absurd (omega (arith, e, h))))
      ∙ none_behind n (a + 1) count (omega (arith, h))

  among : (n a k count : ℕ) → a + k ≡ n → k < count → filter_map (had n) (all_from a count) ≡ option_to_list (gets n)
  among n a k zero e h = absurd (omega (arith, h))
  among n a zero (suc count) e h =
      let at : a ≡ n = omega (arith, e) in
      mine n a (gets a) (all_from (a + 1) count) (eq-eqb a n at)
      ∙ ap (λ items. option_to_list (gets a) ++ items) (none_behind n (a + 1) count (omega (arith, at)))
      ∙ append-nil (option_to_list (gets a)) ∙ ap (λ m. option_to_list (gets m)) at
  among n a (suc k) (suc count) e h =
      others n a (gets a) (all_from (a + 1) count) (differs a n (λ same. absurd (omega (arith, same, e))))
      ∙ among n (a + 1) k count (omega (arith, e)) (omega (arith, h))

  -- one of the first so many receivers has what it gets
  pub has_its_own : (n count : ℕ) → n < count → filter_map (had n) (all_from 0 count) ≡ option_to_list (gets n)
  has_its_own n count h = among n 0 n count (omega arith) h
