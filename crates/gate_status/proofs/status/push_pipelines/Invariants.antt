use Rattle.std.proofs.Common.{◌≡◌, ◌++◌, string_bytes, length}
use Rattle.gate_status.specs.Status.{pipeline_lines}
use Rattle.gate_status.proofs.status.push_pipelines.Given as goal

-- what is written and the lines of what is left make the whole
abbrev pub invariant-loop-pipeline : goal.invariant-loop-pipeline
invariant-loop-pipeline l = string_bytes l.out ++ pipeline_lines l.tenant l.pipelines l.entries ≡ string_bytes l.fn.out ++ pipeline_lines l.tenant l.fn.pipelines l.fn.entries

abbrev pub decreases-loop-pipeline : goal.decreases-loop-pipeline
decreases-loop-pipeline l = length l.pipelines
