use Rattle.std.proofs.Common.{◌∙◌, arith, refl, ap, length, [], ◌∷◌, ◌++◌, length-append}
use Rattle.gate_queue.specs.Views.{as_taker}
use Rattle.gate_queue.specs.FreeViews.{known_by}
use Rattle.gate_queue.proofs.FreeKeeps.{free_take_keeps}
use Rattle.gate_queue.proofs.FreeSettles.{behind, all_from, one_further}
use Rattle.gate_queue.proofs.Settles.{drain_step, drain_end}
use Rattle.gate_queue.proofs.free.settle.drain.Goals as goal

pub pop_as-requires-clause-rule : goal.pop_as-requires-clause-rule
pop_as-requires-clause-rule g c = free_take_keeps _ _ _ c.loop-item.invariant.2.2

pub push_reserved-requires : goal.push_reserved-requires
push_reserved-requires g c =
    let was = c.loop-item.invariant in
    let told = drain_step _ _ (as_taker (known_by c.args.right)) was.2.0 _ _ _ was.2.2 c.in-Some.ensures.rule.0 c.requires.all_joined c.requires.right.1 c.requires.count in
    let long = ap length was.2.1 ∙ length-append c.args.rest.items was.2.0 in
    omega (arith, told.1, long, c.loop-item.rest.ok.0, c.requires.room, was.1)

pub loop-item-smaller : goal.loop-item-smaller
loop-item-smaller g c =
    let was = c.loop-item.invariant in
    let told = drain_step _ _ (as_taker (known_by c.args.right)) was.2.0 _ _ _ was.2.2 c.in-Some.ensures.rule.0 c.requires.all_joined c.requires.right.1 c.requires.count in
    let long = ap length was.2.1 ∙ length-append c.args.rest.items was.2.0 in
    omega (arith, told.1, long, c.loop-item.rest.ok.0, c.push_reserved.ensures.len)

pub loop-item-preserved : goal.loop-item-preserved
loop-item-preserved g c =
    let was = c.loop-item.invariant in
    let told = drain_step _ _ (as_taker (known_by c.args.right)) was.2.0 _ _ _ was.2.2 c.in-Some.ensures.rule.0 c.requires.all_joined c.requires.right.1 c.requires.count in (
      c.in-Some.ensures.queue.0,
      c.push_reserved.ensures.capacity ∙ was.1,
      (
        was.2.0 ++ c.in-Some.item ∷ [],
        one_further _ _ _ _ _ was.2.1 c.push_reserved.ensures.items,
        told.0,
        omega (arith, told.1, length-append was.2.0 (c.in-Some.item ∷ [])),
      ),
    )

pub returns-clause-delivered : goal.returns-clause-delivered
returns-clause-delivered g c before is s below =
    let was = c.loop-item.invariant.2 in
    let told = drain_end _ (as_taker (known_by c.args.right)) was.0 was.2 c.requires.all_joined ([], refl, c.in_default.ensures.rule.1) in
    behind before c.args.rest.items was.0 c.loop-item.rest.items s _ _ is was.1 (told.0 s below)

pub returns-clause-from : goal.returns-clause-from
returns-clause-from g c before is =
    let was = c.loop-item.invariant.2 in
    let told = drain_end _ (as_taker (known_by c.args.right)) was.0 was.2 c.requires.all_joined ([], refl, c.in_default.ensures.rule.1) in
    all_from _ before c.args.rest.items was.0 c.loop-item.rest.items _ is was.1 told.1.0 told.1.1
