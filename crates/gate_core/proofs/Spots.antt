-- Lists that are changed at one place, and what is looked up in them.
use Rattle.std.proofs.Common.{◌≡◌, ap, refl, subst, ℕ, zero, suc, List, [], ◌∷◌, Bool, true, false, Some, slice_set, eqb-true}
use Rattle.std.specs.Prelude.{◌==◌, slice_get}
use Rattle.std.proofs.lemmas.Bool.{eqb-false}

-- whether two numbers are the same
pub data Spot (i j : ℕ) : Type 0 where
  here : i ≡ j → Spot i j
  elsewhere : (i ≡ j → ⊥) → Spot i j

by_test : (i j : ℕ) (b : Bool) → (i == j) ≡ b → Spot i j
by_test i j true e = here (eqb-true i j e)
by_test i j false e = elsewhere (eqb-false i j e)

pub spot : (i j : ℕ) → Spot i j
spot i j = by_test i j (i == j) refl

pub set_here : {X : Type 0} (xs : List X) (i : ℕ) (x y : X) → slice_get xs i ≡ Some x → slice_get (slice_set xs i y) i ≡ Some y
set_here [] i x y e = absurd (cc)
set_here (z ∷ zs) zero x y e = refl
set_here (z ∷ zs) (suc i) x y e = set_here zs i x y e

pub set_elsewhere : {X : Type 0} (xs : List X) (i j : ℕ) (y : X) → (i ≡ j → ⊥) → slice_get (slice_set xs i y) j ≡ slice_get xs j
set_elsewhere [] i j y differ = refl
set_elsewhere (z ∷ zs) zero zero y differ = absurd (differ refl)
set_elsewhere (z ∷ zs) zero (suc j) y differ = refl
set_elsewhere (z ∷ zs) (suc i) zero y differ = refl
set_elsewhere (z ∷ zs) (suc i) (suc j) y differ = set_elsewhere zs i j y (λ e. differ (ap suc e))

-- what is looked up where one value was set
pub data AfterSet {X : Type 0} (xs : List X) (i : ℕ) (y : X) (j : ℕ) : Type 0 where
  it : i ≡ j → slice_get (slice_set xs i y) j ≡ Some y → AfterSet xs i y j
  another : (i ≡ j → ⊥) → slice_get (slice_set xs i y) j ≡ slice_get xs j → AfterSet xs i y j

after_spot : {X : Type 0} (xs : List X) (i j : ℕ) (x y : X) → slice_get xs i ≡ Some x → Spot i j → AfterSet xs i y j
after_spot xs i j x y e (here s) = it s (subst (λ k. slice_get (slice_set xs i y) k ≡ Some y) s (set_here xs i x y e))
after_spot xs i j x y e (elsewhere differ) = another differ (set_elsewhere xs i j y differ)

pub after_set : {X : Type 0} (xs : List X) (i j : ℕ) (x y : X) → slice_get xs i ≡ Some x → AfterSet xs i y j
after_set xs i j x y e = after_spot xs i j x y e (spot i j)

pub not_itself : (n : ℕ) → (n == n) ≡ false → ⊥
not_itself n e = eqb-false n n e refl
