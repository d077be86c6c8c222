use Rattle.std.specs.Prelude.{◌≡◌, ◌++◌, All, map, vec_items}
use Rattle.std.specs.Vec.Iter.{into_iter_items}
use Rattle.gate_run_threads.proofs.works.start_lists.Given as goal

abbrev pub invariant-loop-works : goal.invariant-loop-works
invariant-loop-works g l =
    (map (λ list. map (λ thread. thread.promise.work.value) list.items) (vec_items l.threads) ++ map (λ works. works.items) (into_iter_items l.works-iterator) ≡ map (λ works. works.items) l.fn.lists.items)
    × All (λ works. All g.W.Work.ready works.items) (into_iter_items l.works-iterator)
