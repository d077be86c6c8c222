use Rattle.std.proofs.Common.{◌∙◌, ap, arith, refl}
use Rattle.gate_queue.specs.Seats.{in_table}
use Rattle.gate_queue.specs.Inner.Sharing.{seated}
use Rattle.gate_queue.proofs.Lists.{new_one_more, new_seat_is}
use Rattle.gate_queue.proofs.Parts.{seats}
use Rattle.gate_queue.proofs.opening.seat.Goals as goal

pub another-own-requires-clause-rule : goal.another-own-requires-clause-rule
another-own-requires-clause-rule g c = seats _ _ _ c.loop-sender.invariant.1 (omega arith) refl

pub loop-sender-preserved : goal.loop-sender-preserved
loop-sender-preserved g c =
    let own = c.another-own.ensures in (
      (own.queue.0.0 ∙ c.loop-sender.invariant.0.0, own.queue.0.2 ∙ c.loop-sender.invariant.0.1),
      own.rule.0 ∙ ap seated c.loop-sender.invariant.1,
      omega arith,
      omega arith,
      new_one_more _ _ _ _ _ _ c.loop-sender.invariant.4 (omega arith) (new_seat_is _ _ _ _ _ _ (ap in_table own.queue.1.0) own.rule.1 c.loop-sender.invariant.1) c.push_reserved.ensures.items,
    )
