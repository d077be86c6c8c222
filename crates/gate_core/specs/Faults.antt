-- What a reader of scripts answers.
use Rattle.std.specs.Prelude.{◌≡◌, ℕ, List, Result, Ok, Err}
use Rattle.gate_core.specs.declared.script.ScriptFault.{ScriptFault}
use Rattle.gate_core.specs.declared.script.ScriptFault.TheVariants.{Memory, Script}
use Rattle.gate_core.specs.declared.script.Scripted.{Scripted}

-- Memory may be refused at any point. Every other fault is the script's own.
abbrev pub FailsScript : Result (List Scripted) ℕ → ScriptFault → Type 0
FailsScript said Memory = Unit {0}
FailsScript said (Script line) = said ≡ Err line

abbrev pub GivesScript : Result (List Scripted) ℕ → Result (List Scripted) ScriptFault → Type 0
GivesScript said (Ok lines) = said ≡ Ok lines
GivesScript said (Err fault) = FailsScript said fault
