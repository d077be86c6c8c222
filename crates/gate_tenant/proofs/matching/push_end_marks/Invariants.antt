use Rattle.std.proofs.Common.{◌≡◌, ◌++◌, map}
use Rattle.std.specs.List.{range_with_len}
use Rattle.gate_record.specs.declared.transit.PipelineItem.TheVariants as item
use Rattle.gate_tenant.specs.Dispatching.{for_pipeline}
use Rattle.gate_tenant.proofs.matching.push_end_marks.Given as goal

-- the end marks of the pipelines so far
abbrev pub invariant-loop-pipeline : goal.invariant-loop-pipeline
invariant-loop-pipeline l = l.items.items ≡ l.fn.items.items ++ map (λ p. for_pipeline p item.End) (range_with_len 0 l.pipeline)
