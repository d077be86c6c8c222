use Rattle.gate_queue.specs.Seats.{AreAllTailsOf}
use Rattle.gate_refusals.proofs.queues.run_free.Given as goal

abbrev pub invariant-loop-value : goal.invariant-loop-value
invariant-loop-value g l = AreAllTailsOf l.queue l.tails.items
