use Rattle.std.proofs.Common.{arith}
use Rattle.gate_queue.proofs.FreeKeeps.{free_parts}
use Rattle.gate_queue.proofs.free.settle.part.Goals as goal

pub another-own-requires-clause-rule : goal.another-own-requires-clause-rule
another-own-requires-clause-rule g c =
    let was = c.loop-sender.invariant.3 in
    let senders = c.requires.senders in
    free_parts _ _ _ was.2 (omega arith) (omega arith) (omega arith)
