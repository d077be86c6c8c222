use Rattle.std.specs.Prelude.{◌≡◌, drop, length, map, vec_items}
use Rattle.std.specs.Vec.Iter.{into_iter_items}
use Rattle.gate_run_threads.specs.Lists.{EachAt}
use Rattle.gate_run_posts.specs.PipelineEnds.{inbox_of}
use Rattle.gate_run.specs.Inner.Seatings.{IsWorkerOf}
use Rattle.gate_run.proofs.seating.seat_pipelines.Given as goal

abbrev pub invariant-loop-number : goal.invariant-loop-number
invariant-loop-number g l =
    (length (vec_items l.workers) ≡ l.number)
    × (into_iter_items l.heads ≡ drop l.number l.fn.heads.items)
    × (into_iter_items l.inbox ≡ drop l.number l.fn.inbox.items)
    × EachAt (IsWorkerOf l.lent.gens.now.first l.tenant.0 l.sources (map inbox_of l.fn.inbox.items)) (vec_items l.workers)
