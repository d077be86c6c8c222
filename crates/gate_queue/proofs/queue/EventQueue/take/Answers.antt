use Rattle.crossbeam_queue.specs.Passes.{view}
use Rattle.gate_queue.proofs.Told.{take_keeps, empty_told, sender_told}
use Rattle.gate_queue.proofs.queue.EventQueue.take.Goals as goal

pub pop_as-requires-clause-rule : goal.pop_as-requires-clause-rule
pop_as-requires-clause-rule g c = take_keeps _ _ c.head.invariant.knows.known

pub returns-clause-sender : goal.returns-clause-sender
returns-clause-sender g c =
    sender_told _ _ (view c.head.inside.right) (view c.pop_as.new.pass) c.args.self.now c.args.head.now c.head.invariant.knows c.head.view_is c.requires c.pop_as.ensures.rule

pub returns-clause-empty : goal.returns-clause-empty
returns-clause-empty g c = empty_told _ _ (view c.head.inside.right) (view c.pop_as.new.pass) c.args.self.now c.args.head.now c.head.invariant.knows c.head.view_is c.requires c.pop_as.ensures.rule
