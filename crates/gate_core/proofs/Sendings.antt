-- Numbers that differ.
use Rattle.std.proofs.Common.{◌≡◌, refl, ℕ, ◌==◌, Bool, true, false, eqb-true}

pub differs : (a t : ℕ) → (a ≡ t → ⊥) → (a == t) ≡ false
differs a t other = by (a == t) refl
  where
    by : (b : Bool) → (a == t) ≡ b → (a == t) ≡ false
    by true e = absurd (other (eqb-true a t e))
    by false e = e
