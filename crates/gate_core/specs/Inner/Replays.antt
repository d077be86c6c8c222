-- Further definitions about `Replays`, which only private contracts and proofs cite.
use Rattle.std.specs.Prelude.{◌≡◌, ℕ, List, ◌++◌, Option, Some, None, Result, Ok, Err}
use Rattle.gate_config.specs.declared.generation_fault.GenerationFault.{GenerationFault}
use Rattle.gate_config.specs.declared.generation_fault.GenerationFault.TheVariants as generations
use Rattle.gate_config.specs.declared.generations.Generations.{Generations}
use Rattle.gate_core.specs.declared.replaying.ReplayFault.{ReplayFault}
use Rattle.gate_core.specs.declared.replaying.ReplayFault.TheVariants as replay
use Rattle.gate_core.specs.declared.script.ScriptFault.{ScriptFault}
use Rattle.gate_core.specs.declared.script.ScriptFault.TheVariants as script
use Rattle.gate_core.specs.declared.script.Scripted.{Scripted}
use Rattle.gate_core.specs.Replays.{Plays, script_lines, steps_in}
use Rattle.gate_core.specs.Script.{script_of}
use Rattle.gate_core.specs.States.{State}
use Rattle.gate_core.specs.Steps.{left_by}

abbrev pub of_generation_fault : GenerationFault → ReplayFault
of_generation_fault generations.Memory = replay.Memory
of_generation_fault generations.Count = replay.Generations generations.Count
of_generation_fault (generations.Document g fault) = replay.Generations (generations.Document g fault)

abbrev pub of_script_fault : ScriptFault → ReplayFault
of_script_fault script.Memory = replay.Memory
of_script_fault (script.Script line) = replay.Script line

-- the text and the state after these lines are played, or the line that is the fault
abbrev pub played : Generations → State → List ℕ → Result (List Scripted) ℕ → Result (List ℕ × State) ℕ
played gens state text (Ok lines) = Ok (text ++ script_lines gens state lines, left_by gens state (steps_in lines))
played gens state text (Err line) = Err line

-- what line n stands for was played; or memory was refused; or line n is the fault
abbrev pub PlaysLine : Generations → State → List ℕ → Option (List Scripted) → State → List ℕ → ℕ → Result (Unit {0}) ScriptFault → Type 0
PlaysLine gens state text None next longer n (Ok done) = ⊥
PlaysLine gens state text (Some lines) next longer n (Ok done) = (next ≡ left_by gens state (steps_in lines)) × (longer ≡ text ++ script_lines gens state lines)
PlaysLine gens state text said next longer n (Err script.Memory) = Unit {0}
PlaysLine gens state text said next longer n (Err (script.Script line)) = (said ≡ None) × (line ≡ n)

-- the script stands for its lines, and the text is what they play
pub record PlaysScript (gens : Generations) (bytes text : List ℕ) : Type 0 where
  pub lines : List Scripted
  pub parsed : script_of bytes ≡ Ok lines
  pub plays : Plays gens lines text
