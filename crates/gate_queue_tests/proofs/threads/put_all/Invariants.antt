use Rattle.std.proofs.Common.{◌≡◌, ◌≤◌, ◌++◌, length, take}
use Rattle.gate_queue.specs.Seats.{IsTailOf}
use Rattle.gate_queue_tests.proofs.threads.put_all.Given as goal

abbrev pub invariant-loop : goal.invariant-loop
invariant-loop g l = IsTailOf l.queue l.tail × (l.tail.sender ≡ l.fn.tail.sender) × (l.tail.put ≡ l.fn.tail.put ++ take l.next l.all) × (l.next ≤ length l.all)
