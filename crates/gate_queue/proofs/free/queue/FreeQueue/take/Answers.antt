use Rattle.std.proofs.Common.{arith}
use Rattle.gate_queue.specs.FreeViews.{known_by}
use Rattle.gate_queue.proofs.FreeKeeps.{free_take_keeps}
use Rattle.gate_queue.proofs.FreeHeads.{free_empty_told, free_sender_told, right_after_one, seat_after_one, none_left}
use Rattle.gate_queue.proofs.free.queue.FreeQueue.take.Goals as goal

pub invariant_of-head : goal.invariant_of-head
invariant_of-head g c = right_after_one _ _ _ _ _ _ c.head.invariant c.in-Some.ensures.items c.in-Some.ensures.capacity

pub returns-in-Some-clause-some : goal.returns-in-Some-clause-some
returns-in-Some-clause-some g c = seat_after_one _ (known_by c.head.inside.right) _ _ _ c.args.head.now c.head.invariant.split c.head.view_is c.in-Some.ensures.items

pub pop_as-requires-clause-rule : goal.pop_as-requires-clause-rule
pop_as-requires-clause-rule g c = free_take_keeps _ _ _ c.head.invariant.knows.known

pub returns-clause-sender : goal.returns-clause-sender
returns-clause-sender g c =
    free_sender_told _ _ (known_by c.head.inside.right) (known_by c.pop_as.new.pass) _ c.head.inside.ready.items c.args.self.now c.args.head.now c.head.invariant.knows (none_left c.head.inside.ready.items (let none = c.in_default.ensures.cases.0 in omega (arith, c.head.inside.ready.ok))) c.head.view_is c.requires
    c.pop_as.ensures.rule

pub returns-clause-empty : goal.returns-clause-empty
returns-clause-empty g c =
    free_empty_told _ _ (known_by c.head.inside.right) (known_by c.pop_as.new.pass) _ c.head.inside.ready.items c.args.self.now c.args.head.now c.head.invariant.knows (none_left c.head.inside.ready.items (let none = c.in_default.ensures.cases.0 in omega (arith, c.head.inside.ready.ok))) c.head.view_is c.requires
    c.pop_as.ensures.rule
