use Rattle.std.proofs.Common.{◌≡◌, flat_map, take}
use Rattle.gate_tenant.specs.Inner.Batches.{conns_in, events_in, gens_in}
use Rattle.gate_tenant.proofs.batch.Batch.of.Given as goal

-- the rows of the items so far
abbrev pub invariant-loop-item : goal.invariant-loop-item
invariant-loop-item l =
    (l.batch.events.items ≡ flat_map events_in (take l.item-index l.items))
    × (l.batch.gens.items ≡ flat_map gens_in (take l.item-index l.items))
    × (l.batch.conns.items ≡ flat_map conns_in (take l.item-index l.items))
