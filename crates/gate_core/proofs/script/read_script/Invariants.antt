use Rattle.std.proofs.Common.{◌≡◌, ◌+◌, ◌≤◌, length}
use Rattle.std.specs.Str.Lines.{lines}
use Rattle.gate_core.specs.Script.{script_of, lines_from, followed_by}
use Rattle.gate_core.proofs.script.read_script.Given as goal

-- what the lines so far stand for, followed by what those of the rest do, is what the script says
abbrev pub invariant-loop-rest : goal.invariant-loop-rest
invariant-loop-rest l = record {
  read : script_of l.script ≡ followed_by l.lines (lines_from (l.before + 1) (lines l.rest));
  few : l.before + length l.rest ≤ length l.script;
}

abbrev pub decreases-loop-rest : goal.decreases-loop-rest
decreases-loop-rest l = length l.rest
