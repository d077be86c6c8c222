-- Further definitions about `Faults`, which only private contracts and proofs cite.
use Rattle.std.specs.Prelude.{◌≡◌, ℕ, List, ◌++◌, Option, Some, None, Result, Ok, Err}
use Rattle.gate_core.specs.declared.script.ScriptFault.{ScriptFault}
use Rattle.gate_core.specs.declared.script.ScriptFault.TheVariants.{Memory, Script}
use Rattle.gate_core.specs.declared.script.Scripted.{Scripted}

-- what line n stands for was added after the lines before it; or memory was refused; or line n is the fault
abbrev pub AddsLine : Option (List Scripted) → List Scripted → List Scripted → ℕ → Result (Unit {0}) ScriptFault → Type 0
AddsLine None old new n (Ok done) = ⊥
AddsLine (Some lines) old new n (Ok done) = new ≡ old ++ lines
AddsLine said old new n (Err Memory) = Unit {0}
AddsLine said old new n (Err (Script line)) = (said ≡ None) × (line ≡ n)
