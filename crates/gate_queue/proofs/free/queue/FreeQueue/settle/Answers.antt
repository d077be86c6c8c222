use Rattle.std.proofs.Common.{◌∙◌, ap, sym, subst}
use Rattle.gate_queue.specs.Seats.{in_blocks}
use Rattle.gate_queue.specs.States.{AreFrom}
use Rattle.gate_queue.specs.Views.{as_taker}
use Rattle.gate_queue.specs.FreeViews.{known_by}
use Rattle.gate_queue.proofs.FreeKeeps.{free_take_keeps}
use Rattle.gate_queue.proofs.FreeSettles.{are_seats, back_tails, back_head, delivered_each, taken_before}
use Rattle.gate_queue.proofs.free.queue.FreeQueue.settle.Goals as goal

pub len_as-count-requires-clause-rule : goal.len_as-count-requires-clause-rule
len_as-count-requires-clause-rule g c = (free_take_keeps _ _ _ c.join-right.ensures.right.1).1

pub returns-in_default-clause-memory : goal.returns-in_default-clause-memory
returns-in_default-clause-memory g c =
    let name = ap (λ q. q.name) c.into_parts-blocks.ensures in
    let known = c.len_as-count.ensures.queue.2 ∙ c.join-right.ensures.right.1 in
    let back = c.part-right.ensures in
    let seen = c.into_parts-right.ensures.seen in
    let same = ap in_blocks back.right.0.0.0 ∙ ap (λ q. q.id) name ∙ sym (ap (λ q. q.id) c.requires.head) ∙ sym (ap (λ h. h.queue.id) seen) in (
      c.into_parts-blocks.ensures,
      back_tails _ _ _ _ _ (are_seats c.args.self _ _ _ name c.requires.tails.1) back.tails (ap (λ k. (as_taker k).joined) known),
      back_head _ _ (known_by c.into_parts-right.result.0) (known_by c.len_as-count.new.pass) (known_by c.part-right.result) _ _ c.args.head known back.right.1 same seen,
    )

pub returns-clause-delivered : goal.returns-clause-delivered
returns-clause-delivered g c =
    let known = c.len_as-count.ensures.queue.2 ∙ c.join-right.ensures.right.1 in
    let parts = c.into_parts-right.ensures in
    delivered_each _ (as_taker (known_by c.len_as-count.new.pass)) c.args.head.taken _ _ (ap (λ k. (as_taker k).joined) known)
    (ap (λ k. (as_taker k).senders) known ∙ ap (λ h. h.queue.senders) parts.seen ∙ ap (λ q. q.senders) c.requires.head) c.requires.tails.0 (λ k d h. (c.requires.tails.1 k d h).1)
    (c.drain-rest.ensures.delivered c.args.head.taken (taken_before _ _ _ _ _ _ (ap (λ k. (as_taker k).taken) known) parts.right.split (ap (λ h. h.taken) parts.seen) c.move_all.ensures.items))

pub returns-clause-from : goal.returns-clause-from
returns-clause-from g c =
    let known = c.len_as-count.ensures.queue.2 ∙ c.join-right.ensures.right.1 in
    let parts = c.into_parts-right.ensures in
    let senders = ap (λ k. (as_taker k).senders) known ∙ ap (λ h. h.queue.senders) parts.seen ∙ ap (λ q. q.senders) c.requires.head in
    let from = c.drain-rest.ensures.from c.args.head.taken (taken_before _ _ _ _ _ _ (ap (λ k. (as_taker k).taken) known) parts.right.split (ap (λ h. h.taken) parts.seen) c.move_all.ensures.items) in
    (subst (λ n. AreFrom n c.args.head.taken) senders from.0, subst (λ n. AreFrom n c.drain-rest.result.items) senders from.1)
