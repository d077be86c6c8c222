use Rattle.std.proofs.Common.{◌≡◌, ◌≤◌, flat_map, length, take}
use Rattle.gate_tenant.specs.Inner.Batches.{rows_of}
use Rattle.gate_tenant.specs.Dispatching.{by_pipeline}
use Rattle.gate_tenant.proofs.matching.push_all.Given as goal

-- what the pipelines get of the items so far, and how many rows they had
abbrev pub invariant-loop-item : goal.invariant-loop-item
invariant-loop-item l =
    (l.items.items ≡ flat_map (by_pipeline l.gens l.tenant.0) (take l.item-index l.gathered))
    × (l.row ≡ length (rows_of (take l.item-index l.gathered)))
    × (l.row ≤ l.item-index)
