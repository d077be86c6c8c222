use Rattle.std.specs.Prelude.{◌≡◌, length, map, vec_items}
use Rattle.std.specs.List.{range_with_len}
use Rattle.gate_config.specs.Lookups.{pipelines_of}
use Rattle.gate_run_threads.specs.Seats.{fresh_head, fresh_tail}
use Rattle.gate_run.proofs.queues.open_triggers.Given as goal

abbrev pub invariant-loop-number : goal.invariant-loop-number
invariant-loop-number l =
    (map (λ queues. length queues.items) (vec_items l.queues) ≡ map (λ t. length (pipelines_of l.config t)) (range_with_len 0 l.number))
    × (map (λ queues. map (λ queue. queue.name.senders) queues.items) (vec_items l.queues) ≡ map (λ queues. map (λ queue. 1) queues.items) (vec_items l.queues))
    × (map (λ row. row.items) (vec_items l.heads) ≡ map (λ queues. map fresh_head queues.items) (vec_items l.queues))
    × (map (λ row. row.items) (vec_items l.tails) ≡ map (λ queues. map (fresh_tail 0) queues.items) (vec_items l.queues))
