use Rattle.std.proofs.Common.{◌≡◌}
use Rattle.gate_queue.specs.Seats.{IsTailOf}
use Rattle.gate_queue_tests.proofs.bound.put_each.Given as goal

abbrev pub invariant-loop-value : goal.invariant-loop-value
invariant-loop-value g l = IsTailOf l.queue l.tail × (l.tail.sender ≡ l.fn.tail.sender)
