use Rattle.std.specs.Prelude.{◌≡◌, map}
use Rattle.std.specs.Vec.Iter.{into_iter_items}
use Rattle.gate_run_threads.specs.Seats.{seat_of}
use Rattle.gate_run_threads.specs.QueueGroups.{AreSettled, seats_in}
use Rattle.gate_run_threads.proofs.free_queues.settle_all.Given as goal

-- where what is left is settled, all is
abbrev pub invariant-loop-queue : goal.invariant-loop-queue
invariant-loop-queue g l =
    (map (λ head. head.queue) (into_iter_items l.heads) ≡ map (λ queue. queue.name) (into_iter_items l.queue-iterator))
    × (map (λ tails. map seat_of tails.items) (into_iter_items l.seats) ≡ map seats_in (into_iter_items l.queue-iterator))
    × (AreSettled (into_iter_items l.queue-iterator) (into_iter_items l.heads) (map (λ tails. tails.items) (into_iter_items l.seats))
    → AreSettled l.fn.queues.items l.fn.heads.items (map (λ tails. tails.items) l.fn.seats.items))
