use Rattle.std.proofs.Common.{◌∙◌, ap, refl}
use Rattle.gate_queue.specs.Views.{as_taker}
use Rattle.gate_queue.specs.FreeViews.{known_by}
use Rattle.gate_queue.proofs.FreeKeeps.{free_joins}
use Rattle.gate_queue.proofs.Settles.{join_keeps, last_number, last_queue}
use Rattle.gate_queue.proofs.Views.{same_web}
use Rattle.gate_queue.proofs.free.settle.join.Goals as goal

pub absorb-requires-clause-queue : goal.absorb-requires-clause-queue
absorb-requires-clause-queue g c =
    let is = c.loop-tail.invariant.2.1 in
    let own = c.into_right.ensures in
    (c.loop-tail.invariant.0, ((same_web _ _ (ap (λ t. t.queue.id) own.1 ∙ last_queue _ _ _ _ _ _ _ c.requires.tails is c.in-Some.ensures.items), refl), own.0.at_rest.0, own.0.at_rest.1))

pub absorb-requires-clause-rule : goal.absorb-requires-clause-rule
absorb-requires-clause-rule g c =
    let was = c.loop-tail.invariant.2 in
    let knows = c.into_right.ensures.0.knows in
    free_joins _ _ _ _ _ _ was.2 knows.known
    (join_keeps _ _ (as_taker (known_by c.args.right)) _ _ _ _ was.2 knows (last_number _ _ _ _ was.0 _ _ c.requires.tails c.requires.all was.1 c.in-Some.ensures.items))
