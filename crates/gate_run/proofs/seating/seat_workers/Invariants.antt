use Rattle.std.specs.Prelude.{◌≡◌, drop, length, map, vec_items}
use Rattle.std.specs.Vec.Iter.{into_iter_items}
use Rattle.gate_run_threads.specs.Lists.{EachAt}
use Rattle.gate_run_posts.specs.PipelineEnds.{inbox_of}
use Rattle.gate_run.specs.Inner.Seatings.{AreWorkersOf}
use Rattle.gate_run.proofs.seating.seat_workers.Given as goal

abbrev pub invariant-loop-number : goal.invariant-loop-number
invariant-loop-number g l =
    (length (vec_items l.workers) ≡ l.number)
    × (into_iter_items l.heads ≡ drop l.number l.fn.heads.items)
    × (into_iter_items l.inbox ≡ drop l.number l.fn.inbox.items)
    × EachAt (AreWorkersOf l.lent.gens.now.first (map (λ queues. queues.items) l.lent.queues.now.triggers.items) (map (λ row. map inbox_of row.items) l.fn.inbox.items)) (map (λ row. row.items) (vec_items l.workers))
