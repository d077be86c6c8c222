use Rattle.gate_queue.specs.Seats.{IsHeadOf}
use Rattle.gate_queue_tests.proofs.free.gather.Given as goal

abbrev pub invariant-loop-call : goal.invariant-loop-call
invariant-loop-call g l = IsHeadOf l.queue l.head
