-- What is printed where nothing was replayed.
use Rattle.std.specs.Prelude.{ℕ, List, ◌++◌, codes, decimal}
use Rattle.gate_config.specs.FaultTexts.{generation_text}
use Rattle.gate_core.specs.declared.replaying.ReplayFault.{ReplayFault}
use Rattle.gate_core.specs.declared.replaying.ReplayFault.TheVariants as replay
use Rattle.gate_core.specs.declared.script.ScriptFault.{ScriptFault}
use Rattle.gate_core.specs.declared.script.ScriptFault.TheVariants as script

-- `script` and the number of the line that stands for nothing
abbrev pub script_text : ScriptFault → List ℕ
script_text script.Memory = codes "memory"
script_text (script.Script line) = codes "script " ++ decimal line

abbrev pub replay_text : ReplayFault → List ℕ
replay_text (replay.Generations found) = generation_text found
replay_text (replay.Script line) = codes "script " ++ decimal line
replay_text replay.Memory = codes "memory"
