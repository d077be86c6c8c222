use Rattle.std.proofs.Common.{rules}
use Rattle.gate_run_threads.proofs.Paired.{all_kept}
use Rattle.gate_run_threads.proofs.works.join_all.Goals as goal

pub returns-in-Ok : goal.returns-in-Ok
returns-in-Ok g c =
    all_kept g.W.Work.comes_to (λ thread. thread.promise.work.value) c.args.threads.items c.in-Ok.ends.items (search rules)
    (λ i d low. let (again, kept) = c.in-Ok.ensures.each i d (search rules) in (kept.handle, kept.handle_is, kept.kept))
