use Rattle.std.specs.Prelude.{◌≡◌, drop, length, map, vec_items}
use Rattle.std.specs.Vec.Iter.{into_iter_items}
use Rattle.gate_run_threads.specs.Lists.{EachAt}
use Rattle.gate_run.specs.Inner.Seatings.{IsTenantWorkerOf}
use Rattle.gate_run.proofs.seating.seat_tenant_workers.Given as goal

abbrev pub invariant-loop-number : goal.invariant-loop-number
invariant-loop-number g l =
    (length (vec_items l.tenant_workers) ≡ l.number)
    × (into_iter_items l.heads ≡ drop l.number l.fn.heads.items)
    × (into_iter_items l.tails ≡ drop l.number l.fn.tails.items)
    × EachAt (IsTenantWorkerOf l.lent.gens.now l.lent.queues.now.items.items (map (λ queues. queues.items) l.lent.queues.now.triggers.items)) (vec_items l.tenant_workers)
