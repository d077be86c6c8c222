use Rattle.gate_queue.specs.Seats.{IsHeadOf}
use Rattle.gate_queue_tests.proofs.threads.next.Given as goal

abbrev pub invariant-loop : goal.invariant-loop
invariant-loop g l = IsHeadOf l.queue l.head
