-- What is left of the script gets shorter with each line.
use Rattle.std.proofs.Common.{length}
use Rattle.gate_explain.proofs.script.push_lines.Given as goal

abbrev pub decreases-loop-rest : goal.decreases-loop-rest
decreases-loop-rest l = length l.rest
