use Rattle.std.proofs.Common.{◌≡◌, ◌+◌, ◌≤◌, [], length}
use Rattle.std.specs.Prelude.{string_bytes}
use Rattle.std.specs.Str.Lines.{lines}
use Rattle.gate_core.specs.Inner.Replays.{played}
use Rattle.gate_core.specs.Script.{lines_from, script_of}
use Rattle.gate_core.specs.Steps.{first}
use Rattle.gate_core.specs.Worlds.{AcceptedAtMost, gens_of, state_of}
use Rattle.gate_core.proofs.playing.play_script.Given as goal

-- what the rest of the script does and prints completes what was done and printed
abbrev pub invariant-loop-rest : goal.invariant-loop-rest
invariant-loop-rest g l = record {
  same : gens_of l.player.world ≡ l.gens;
  counts : AcceptedAtMost l.before (state_of l.player.world);
  few : l.before + length l.rest ≤ length l.script;
  completes : played l.gens (state_of l.player.world) (string_bytes l.player.text) (lines_from (l.before + 1) (lines l.rest)) ≡ played l.gens (first l.gens) [] (script_of l.script);
}

abbrev pub decreases-loop-rest : goal.decreases-loop-rest
decreases-loop-rest g l = length l.rest
