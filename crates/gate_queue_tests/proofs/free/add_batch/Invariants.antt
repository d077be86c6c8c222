use Rattle.std.proofs.Common.{◌≡◌, ◌+◌, ◌≤◌, vec_len}
use Rattle.gate_queue.specs.Batches.{batch_head, batch_lender, batch_left}
use Rattle.gate_queue.specs.Seats.{IsHeadOf}
use Rattle.gate_queue_tests.proofs.free.add_batch.Given as goal

abbrev pub invariant-loop-item : goal.invariant-loop-item
invariant-loop-item g l =
    (goal.iterator-loop-item g).can_next l.item-iterator × (goal.iterator-loop-item g).is_finite l.item-iterator
    × IsHeadOf l.queue (batch_head l.item-iterator) × (batch_lender l.item-iterator ≡ batch_lender l.initial.item-iterator) × (vec_len l.gathered + batch_left l.item-iterator ≤ vec_len l.initial.gathered + l.k)
