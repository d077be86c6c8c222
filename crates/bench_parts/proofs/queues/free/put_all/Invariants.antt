use Rattle.gate_queue.specs.Seats.{IsTailOf}
use Rattle.bench_parts.proofs.queues.free.put_all.Given as goal

abbrev pub invariant-loop : goal.invariant-loop
invariant-loop g l = IsTailOf l.queue l.tail
