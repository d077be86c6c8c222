use Rattle.std.specs.Prelude.{◌≡◌, ◌∷◌, [], map}
use Rattle.std.specs.Vec.Iter.{into_iter_items}
use Rattle.gate_run_threads.specs.Seats.{seat_in, seat_of}
use Rattle.gate_run_threads.specs.QueueGroups.{AreSettled}
use Rattle.gate_run_threads.proofs.bounded_queues.settle_bounded_queues.Given as goal

-- where what is left is settled, all is
abbrev pub invariant-loop-queue : goal.invariant-loop-queue
invariant-loop-queue g l =
    (map (λ queue. queue.name.senders) (into_iter_items l.queue-iterator) ≡ map (λ queue. 1) (into_iter_items l.queue-iterator))
    × (map (λ head. head.queue) (into_iter_items l.heads) ≡ map (λ queue. queue.name) (into_iter_items l.queue-iterator))
    × (map seat_of (into_iter_items l.tails) ≡ map (seat_in 0) (into_iter_items l.queue-iterator))
    × (AreSettled (into_iter_items l.queue-iterator) (into_iter_items l.heads) (map (λ tail. tail ∷ []) (into_iter_items l.tails))
    → AreSettled l.fn.queues.items l.fn.heads.items (map (λ tail. tail ∷ []) l.fn.tails.items))
