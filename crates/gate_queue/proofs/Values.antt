-- The values of one sender in a list, and the length of a list by its senders.
use Rattle.std.proofs.Common.{◌≡◌, ◌≢◌, ℕ, suc, Bool, true, false, cond, List, [], ◌∷◌, ◌++◌, length, refl, ap, ◌∙◌, eq-eqb, ne_eqb, arith, append-nil}
use Rattle.std.specs.Prelude.{◌==◌}
use Rattle.gate_queue.specs.declared.tagged.Tagged.{Tagged}
use Rattle.gate_queue.specs.Tagged.{values_of}
use Rattle.gate_queue.specs.States.{AreFrom}

module _ {T : Type 0} where
  pub values_of-append : (s : ℕ) (xs ys : List (Tagged T)) → values_of s (xs ++ ys) ≡ values_of s xs ++ values_of s ys
  values_of-append s [] ys = refl
  values_of-append s (x ∷ xs) ys =
      elim (x.sender == s) as (λ (b : Bool). (cond b (x.value ∷ values_of s (xs ++ ys)) (values_of s (xs ++ ys))) ≡ (cond b (x.value ∷ values_of s xs) (values_of s xs)) ++ values_of s ys)
      [ true ↦ ap (λ l. x.value ∷ l) (values_of-append s xs ys) | false ↦ values_of-append s xs ys ]

  pub one_of_same : (s : ℕ) (x : Tagged T) → x.sender ≡ s → values_of s (x ∷ []) ≡ x.value ∷ []
  one_of_same s x e = rw (eq-eqb x.sender s e)

  pub one_of_other : (s : ℕ) (x : Tagged T) → x.sender ≢ s → values_of s (x ∷ []) ≡ []
  one_of_other s x e = rw (ne_eqb x.sender s e)

  -- one more value of the sender
  pub values_of-same : (s : ℕ) (xs : List (Tagged T)) (x : Tagged T) → x.sender ≡ s → values_of s (xs ++ x ∷ []) ≡ values_of s xs ++ x.value ∷ []
  values_of-same s xs x e = values_of-append s xs (x ∷ []) ∙ ap (λ l. values_of s xs ++ l) (one_of_same s x e)

  -- one more value of another sender
  pub values_of-other : (s : ℕ) (xs : List (Tagged T)) (x : Tagged T) → x.sender ≢ s → values_of s (xs ++ x ∷ []) ≡ values_of s xs
  values_of-other s xs x e = values_of-append s xs (x ∷ []) ∙ ap (λ l. values_of s xs ++ l) (one_of_other s x e) ∙ append-nil (values_of s xs)

  -- in a list from one sender all values are that sender's
  pub length-values_of-only : (xs : List (Tagged T)) → AreFrom 1 xs → length (values_of 0 xs) ≡ length xs
  length-values_of-only [] from = refl
  length-values_of-only (x ∷ xs) from =
      let zero_is : x.sender ≡ 0 = (let b = from 0 x (omega arith) in omega arith) in
      rw (eq-eqb x.sender 0 zero_is) (ap suc (length-values_of-only xs (λ k d h. from (suc k) d (omega arith))))
