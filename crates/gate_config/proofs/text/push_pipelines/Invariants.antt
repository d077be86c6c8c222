use Rattle.std.proofs.Common.{◌≡◌, ◌++◌, ◌+◌, ◌<◌, ◌^◌, string_bytes, length}
use Rattle.std.specs.List.{enumerate_from, flat_map}
use Rattle.gate_config.specs.CheckText.{pipeline_line}
use Rattle.gate_config.proofs.text.push_pipelines.Given as goal

-- what is written and the lines of what is left make the whole
abbrev pub invariant-loop-pipeline : goal.invariant-loop-pipeline
invariant-loop-pipeline l = record {
  written : string_bytes l.out ++ flat_map (pipeline_line l.config l.tenant.0) (enumerate_from l.number l.pipelines) ≡ string_bytes l.fn.out ++ flat_map (pipeline_line l.config l.tenant.0) (enumerate_from 0 l.spec.pipelines);
  few : l.number + length l.pipelines < 2 ^ 32;
}

abbrev pub decreases-loop-pipeline : goal.decreases-loop-pipeline
decreases-loop-pipeline l = length l.pipelines
