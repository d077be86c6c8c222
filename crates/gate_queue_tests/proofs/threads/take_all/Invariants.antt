use Rattle.std.proofs.Common.{◌≡◌, ◌++◌}
use Rattle.gate_queue.specs.Seats.{IsHeadOf}
use Rattle.gate_queue_tests.proofs.threads.take_all.Given as goal

abbrev pub invariant-loop : goal.invariant-loop
invariant-loop g l = IsHeadOf l.queue l.head × (l.head.taken ≡ l.fn.head.taken ++ l.taken.items)
