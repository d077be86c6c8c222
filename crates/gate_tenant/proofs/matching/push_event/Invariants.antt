use Rattle.std.proofs.Common.{◌≡◌, ◌++◌, map}
use Rattle.std.specs.List.{filter_map, range_with_len}
use Rattle.gate_tenant.specs.Inner.Batches.{marked_item}
use Rattle.gate_tenant.proofs.matching.push_event.Given as goal

-- what the pipelines so far get
abbrev pub invariant-loop-pipeline : goal.invariant-loop-pipeline
invariant-loop-pipeline l = l.items.items ≡ l.fn.items.items ++ filter_map (marked_item (map (λ mask. mask.items) l.masks) l.row l.stamped) (range_with_len 0 l.pipeline)
