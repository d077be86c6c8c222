use Rattle.std.proofs.Common.{rules, ◌≡◌, ◌∷◌, ◌<◌, ℕ, suc, length, slice_index_or, arith, subst}
use Rattle.std.specs.Vec.Iter.{into_iter_items}
use Rattle.gate_run_threads.proofs.Paired.{one_moved}
use Rattle.gate_run_threads.proofs.works.start_all.Goals as goal

pub loop-work-preserved : goal.loop-work-preserved
loop-work-preserved g c =
    let (moved, ready) = c.loop-work.invariant in
    let steps : into_iter_items c.loop-work.work-iterator ≡ c.in-Some.work ∷ into_iter_items c.next.new.self = search rules in (
      one_moved (λ thread. thread.promise.work.value) c.loop-work.threads.items c.push.new.self.items c.in-Ok.thread c.in-Some.work _ _ c.args.works.items moved steps c.in-Ok.ensures c.in-Ok-push.ensures.items,
      (λ k d low. subst (λ xs. (j : ℕ) (e : _) → j < length xs → g.W.Work.ready (slice_index_or xs j e)) steps ready (suc k) d (omega (arith, low))),
    )
