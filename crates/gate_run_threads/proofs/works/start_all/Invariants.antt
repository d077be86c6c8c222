use Rattle.std.specs.Prelude.{◌≡◌, ◌++◌, All, map, vec_items}
use Rattle.std.specs.Vec.Iter.{into_iter_items}
use Rattle.gate_run_threads.proofs.works.start_all.Given as goal

abbrev pub invariant-loop-work : goal.invariant-loop-work
invariant-loop-work g l =
    (map (λ thread. thread.promise.work.value) (vec_items l.threads) ++ into_iter_items l.work-iterator ≡ l.fn.works.items)
    × All g.W.Work.ready (into_iter_items l.work-iterator)
