use Rattle.std.proofs.Common.{◌∙◌, ap, arith, refl}
use Rattle.gate_queue.specs.Seats.{in_blocks}
use Rattle.gate_queue.specs.Inner.Sharing.{seated}
use Rattle.gate_queue.proofs.Lists.{new_one_more, new_seat_is}
use Rattle.gate_queue.proofs.FreeKeeps.{free_seats}
use Rattle.gate_queue.proofs.free.opening.seat.Goals as goal

pub another-own-requires-clause-rule : goal.another-own-requires-clause-rule
another-own-requires-clause-rule g c = free_seats _ _ _ c.loop-sender.invariant.1 (omega arith) refl

pub loop-sender-preserved : goal.loop-sender-preserved
loop-sender-preserved g c =
    let own = c.another-own.ensures in (
      own.queue.0,
      own.rule.0 ∙ ap seated c.loop-sender.invariant.1,
      omega arith,
      omega arith,
      new_one_more _ _ _ _ _ _ c.loop-sender.invariant.4 (omega arith) (new_seat_is _ _ _ _ _ _ (ap in_blocks own.queue.2.0.0) own.rule.1 c.loop-sender.invariant.1) c.push_reserved.ensures.items,
    )
