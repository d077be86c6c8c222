-- Texts that are written one behind another.
use Rattle.std.proofs.Common.{◌≡◌, ◌∙◌, ap, ℕ, List, ◌++◌, append_assoc}
use Rattle.std.specs.Prelude.{Result, Ok, Err}
use Rattle.std.specs.Result.{OnOk}

-- what is written behind something else
pub behind : {a b : List ℕ} (o x y : List ℕ) → a ≡ o ++ x → b ≡ a ++ y → b ≡ o ++ (x ++ y)
behind o x y e f = f ∙ ap (λ zs. zs ++ y) e ∙ append_assoc o x y

-- what holds where it went well
pub on_ok : {T E P Q : Type 0} (r : Result T E) → (P → Q) → OnOk r P → OnOk r Q
on_ok (Ok value) f p = f p
on_ok (Err fault) f p = tt
