use Rattle.std.proofs.Common.{◌∙◌, ap}
use Rattle.crossbeam_queue.specs.Passes.{view}
use Rattle.gate_queue.specs.Views.{as_taker}
use Rattle.gate_queue.proofs.Settles.{join_keeps, last_number, last_queue}
use Rattle.gate_queue.proofs.Views.{same_table}
use Rattle.gate_queue.proofs.settle.join.Goals as goal

pub absorb-requires-clause-queue : goal.absorb-requires-clause-queue
absorb-requires-clause-queue g c =
    let is = c.loop-tail.invariant.1.1 in
    let own = c.into_right.ensures in
    (c.loop-tail.invariant.0, (same_table _ _ (ap (λ t. t.queue.id) own.1 ∙ last_queue _ _ _ _ _ _ _ c.requires.tails is c.in-Some.ensures.items), own.0.at_rest))

pub absorb-requires-clause-rule : goal.absorb-requires-clause-rule
absorb-requires-clause-rule g c =
    let was = c.loop-tail.invariant.1 in
    join_keeps _ _ (as_taker (view c.args.right)) _ _ _ _ was.2 c.into_right.ensures.0.knows (last_number _ _ _ _ was.0 _ _ c.requires.tails c.requires.all was.1 c.in-Some.ensures.items)
