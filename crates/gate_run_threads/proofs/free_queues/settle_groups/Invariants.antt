use Rattle.std.specs.Prelude.{◌≡◌, map}
use Rattle.std.specs.Vec.Iter.{into_iter_items}
use Rattle.gate_run_threads.specs.Seats.{seat_in, seat_of}
use Rattle.gate_run_threads.specs.QueueGroups.{AreGroupsSettled}
use Rattle.gate_run_threads.proofs.free_queues.settle_groups.Given as goal

-- where what is left is settled, all is
abbrev pub invariant-loop-queues : goal.invariant-loop-queues
invariant-loop-queues g l =
    let groups = into_iter_items l.queues-iterator in
    let heads = into_iter_items l.heads in
    let tails = into_iter_items l.tails in
    (map (λ queues. map (λ queue. queue.name.senders) queues.items) groups ≡ map (λ queues. map (λ queue. 1) queues.items) groups)
    × (map (λ row. map (λ head. head.queue) row.items) heads ≡ map (λ queues. map (λ queue. queue.name) queues.items) groups)
    × (map (λ row. map seat_of row.items) tails ≡ map (λ queues. map (seat_in 0) queues.items) groups)
    × (AreGroupsSettled (map (λ queues. queues.items) groups) (map (λ row. row.items) heads) (map (λ row. row.items) tails)
    → AreGroupsSettled (map (λ queues. queues.items) l.fn.groups.items) (map (λ row. row.items) l.fn.heads.items) (map (λ row. row.items) l.fn.tails.items))
