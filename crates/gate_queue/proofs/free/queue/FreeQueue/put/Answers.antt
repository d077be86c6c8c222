use Rattle.std.proofs.Common.{sym}
use Rattle.gate_queue.proofs.FreeKeeps.{free_put_keeps}
use Rattle.gate_queue.proofs.free.queue.FreeQueue.put.Goals as goal

pub push_as-requires-clause-rule : goal.push_as-requires-clause-rule
push_as-requires-clause-rule g c = free_put_keeps _ _ _ c.tail.invariant.knows.known (sym c.tail.invariant.knows.number)
