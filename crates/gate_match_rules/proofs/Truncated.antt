-- What is the same, though nobody says why.
use Rattle.std.proofs.Common.{◌≡◌, ap, Bool}
use mathlib.Core.Bool.{Bool-set}
use Rattle.std.proofs.Math.Logic.{∥∥₁_elim}

pub same_test : {A : Type 0} (test : A → Bool) (a b : A) → ∥ a ≡ b ∥₁ → test a ≡ test b
same_test test a b e = ∥∥₁_elim e (Bool-set _ _) (ap test)
