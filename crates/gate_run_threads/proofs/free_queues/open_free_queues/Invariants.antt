use Rattle.std.specs.Prelude.{◌≡◌, length, map, vec_items}
use Rattle.std.specs.List.{range_with_len}
use Rattle.gate_run_threads.specs.Seats.{fresh_head, fresh_tail}
use Rattle.gate_run_threads.proofs.free_queues.open_free_queues.Given as goal

abbrev pub invariant-loop-queue : goal.invariant-loop-queue
invariant-loop-queue g l =
    (length (vec_items l.queues) ≡ l._queue)
    × (map (λ queue. queue.name.senders) (vec_items l.queues) ≡ map (λ queue. l.senders) (vec_items l.queues))
    × (vec_items l.heads ≡ map fresh_head (vec_items l.queues))
    × (map (λ row. row.items) (vec_items l.rows) ≡ map (λ queue. map (λ s. fresh_tail s queue) (range_with_len 0 l.senders)) (vec_items l.queues))
