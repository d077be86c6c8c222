use Rattle.std.proofs.Common.{rules, ◌≡◌, ap, ◌∷◌, map}
use Rattle.std.specs.Prelude.{All}
use Rattle.std.specs.Vec.Iter.{into_iter_items}
use Rattle.gate_run_threads.proofs.Paired.{all_behind, one_moved}
use Rattle.gate_run_threads.proofs.works.start_lists.Goals as goal

pub loop-works-preserved : goal.loop-works-preserved
loop-works-preserved g c =
    let (moved, ready) = c.loop-works.invariant in
    let steps : into_iter_items c.loop-works.works-iterator ≡ c.in-Some.works ∷ into_iter_items c.next.new.self = search rules in (
      one_moved (λ list. map (λ thread. thread.promise.work.value) list.items) c.loop-works.threads.items c.push.new.self.items c.in_ok-list.list c.in-Some.works.items (map (λ works. works.items) (into_iter_items c.loop-works.works-iterator)) (map (λ works. works.items) (into_iter_items c.next.new.self)) (map (λ works. works.items) c.args.lists.items)
          moved (ap (map (λ works. works.items)) steps) c.in_ok-list.ensures c.in-Ok.ensures.items,
      all_behind c.in-Some.works (λ works. All g.W.Work.ready works.items) (into_iter_items c.next.new.self) (into_iter_items c.loop-works.works-iterator) steps ready,
    )
