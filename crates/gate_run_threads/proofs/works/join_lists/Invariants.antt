use Rattle.std.specs.Prelude.{◌++◌, List, map, vec_items}
use Rattle.std.specs.Vec.Iter.{into_iter_items}
use Rattle.gate_run_threads.specs.Lists.{Pairwise}
use Rattle.gate_run_threads.proofs.works.join_lists.Given as goal

-- with ends of the threads that are left, all have theirs
abbrev pub invariant-loop-threads : goal.invariant-loop-threads
invariant-loop-threads g l =
    (later : List (List _)) → Pairwise (Pairwise g.W.Work.comes_to) (map (λ threads. map (λ thread. thread.promise.work.value) threads.items) (into_iter_items l.threads-iterator)) later
    → Pairwise (Pairwise g.W.Work.comes_to) (map (λ threads. map (λ thread. thread.promise.work.value) threads.items) l.fn.lists.items) (map (λ list. list.items) (vec_items l.ends) ++ later)
