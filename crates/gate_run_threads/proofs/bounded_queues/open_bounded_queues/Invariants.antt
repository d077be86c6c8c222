use Rattle.std.specs.Prelude.{◌≡◌, length, map, vec_items}
use Rattle.gate_run_threads.specs.Seats.{fresh_head, fresh_tail}
use Rattle.gate_run_threads.specs.QueueGroups.{HavePlaces}
use Rattle.gate_run_threads.proofs.bounded_queues.open_bounded_queues.Given as goal

abbrev pub invariant-loop-queue : goal.invariant-loop-queue
invariant-loop-queue g l =
    (length (vec_items l.queues) ≡ l._queue)
    × (map (λ queue. queue.name.senders) (vec_items l.queues) ≡ map (λ queue. 1) (vec_items l.queues))
    × (vec_items l.heads ≡ map fresh_head (vec_items l.queues))
    × (vec_items l.tails ≡ map (fresh_tail 0) (vec_items l.queues))
    × HavePlaces l.places (vec_items l.queues)
