use Rattle.std.proofs.Common.{rules, ◌≡◌, ◌∙◌, sym, ap, subst, map}
use Rattle.std.specs.Vec.Iter.{into_iter_items}
use Rattle.gate_run_threads.specs.Seats.{seat_in, seat_of}
use Rattle.gate_run_threads.specs.QueueGroups.{AreGroupsSettled}
use Rattle.gate_run_threads.proofs.free_queues.settle_groups.Goals as goal

pub loop-queues-init : goal.loop-queues-init
loop-queues-init g c =
    let groups : into_iter_items c.into_iter-queues-iterator.result ≡ c.args.groups.items = search rules in
    let heads : into_iter_items c.into_iter-heads.result ≡ c.args.heads.items = search rules in
    let tails : into_iter_items c.into_iter-tails.result ≡ c.args.tails.items = search rules in (
      ap (map (λ queues. map (λ queue. queue.name.senders) queues.items)) groups ∙ c.requires.senders ∙ ap (map (λ queues. map (λ queue. 1) queues.items)) (sym groups),
      ap (map (λ row. map (λ head. head.queue) row.items)) heads ∙ c.requires.heads ∙ ap (map (λ queues. map (λ queue. queue.name) queues.items)) (sym groups),
      ap (map (λ row. map seat_of row.items)) tails ∙ c.requires.tails ∙ ap (map (λ queues. map (seat_in 0) queues.items)) (sym groups),
      (λ all. subst (λ qs. AreGroupsSettled (map (λ queues. queues.items) qs) (map (λ row. row.items) c.args.heads.items) (map (λ row. row.items) c.args.tails.items)) groups
          (subst (λ hs. AreGroupsSettled (map (λ queues. queues.items) (into_iter_items c.into_iter-queues-iterator.result)) (map (λ row. row.items) hs) (map (λ row. row.items) c.args.tails.items)) heads
          (subst (λ ts. AreGroupsSettled (map (λ queues. queues.items) (into_iter_items c.into_iter-queues-iterator.result)) (map (λ row. row.items) (into_iter_items c.into_iter-heads.result)) (map (λ row. row.items) ts)) tails all))),
    )
