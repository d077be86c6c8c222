use Rattle.gate_queue.specs.Seats.{IsHeadOf}
use Rattle.bench_parts.proofs.queues.shared.take_all.Given as goal

abbrev pub invariant-loop : goal.invariant-loop
invariant-loop g l = IsHeadOf l.queue l.head
