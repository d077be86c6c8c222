use Rattle.std.proofs.Common.{◌≡◌}
use Rattle.gate_queue.specs.Batches.{batch_head, batch_lender}
use Rattle.gate_queue.specs.Seats.{IsHeadOf}
use Rattle.bench_parts.proofs.queues.free.take_batch.Given as goal

abbrev pub invariant-loop-taken : goal.invariant-loop-taken
invariant-loop-taken g l =
    (goal.iterator-loop-taken g).can_next l._taken-iterator × (goal.iterator-loop-taken g).is_finite l._taken-iterator
    × IsHeadOf l.queue (batch_head l._taken-iterator) × (batch_lender l._taken-iterator ≡ batch_lender l.initial._taken-iterator)
