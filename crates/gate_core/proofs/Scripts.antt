-- Lemmas on the lines of a script.
use Rattle.std.proofs.Common.{◌≡◌, ◌∙◌, sym, ap, refl, ℕ, suc, List, [], ◌∷◌, ◌++◌, length, true, Option, Some, None, arith, append_assoc, append-nil, Result, Ok, Err}
use Rattle.std.specs.Prelude.{◌==◌}
use Rattle.std.specs.Str.Lines.{lines}
use Rattle.std.proofs.lemmas.Bool.{eqb-true}
use Rattle.gate_core.specs.declared.script.ScriptFault.{ScriptFault}
use Rattle.gate_core.specs.declared.script.ScriptFault.TheVariants as fault
use Rattle.gate_core.specs.declared.script.Scripted.{Scripted}
use Rattle.gate_core.specs.Faults.{FailsScript}
use Rattle.gate_core.specs.Inner.Faults.{AddsLine}
use Rattle.gate_core.specs.Script.{followed_by, with_line, lines_from}

-- ---- one line more

pub followed_nil : (r : Result (List Scripted) ℕ) → followed_by [] r ≡ r
followed_nil (Ok steps) = refl
followed_nil (Err line) = refl

pub followed_twice : (xs ys : List Scripted) (r : Result (List Scripted) ℕ) → followed_by xs (followed_by ys r) ≡ followed_by (xs ++ ys) r
followed_twice xs ys (Ok steps) = ap Ok (sym (append_assoc xs ys steps))
followed_twice xs ys (Err line) = refl

-- a line whose steps were added
pub line_added : (o : Option (List Scripted)) (old new : List Scripted) (n : ℕ) (done : Unit {0}) (rest : Result (List Scripted) ℕ) → AddsLine o old new n (Ok done) → followed_by old (with_line o n rest) ≡ followed_by new rest
line_added None old new n done rest h = absurd h
line_added (Some steps) old new n done rest h = followed_twice old steps rest ∙ ap (λ (x : List Scripted). followed_by x rest) (sym h)

-- a line that is the fault
pub line_fails : (o : Option (List Scripted)) (old new : List Scripted) (n : ℕ) (fault : ScriptFault) (rest : Result (List Scripted) ℕ) → AddsLine o old new n (Err fault) → FailsScript (followed_by old (with_line o n rest)) fault
line_fails o old new n fault.Memory rest h = tt
line_fails None old new n (fault.Script line) rest h = ap Err (sym h.1)
line_fails (Some steps) old new n (fault.Script line) rest h = let no = h.0 in absurd (cc)

-- where nothing is left, all was read
pub all_read : (said : Result (List Scripted) ℕ) (steps : List Scripted) (n : ℕ) (rest : List ℕ) → said ≡ followed_by steps (lines_from n (lines rest)) → (length rest == 0) ≡ true → said ≡ Ok steps
all_read said steps n [] e none = e ∙ ap Ok (append-nil steps)
all_read said steps n (byte ∷ rest) e none = let no : suc (length rest) ≡ 0 = eqb-true (suc (length rest)) 0 none in absurd (omega (arith, no))
