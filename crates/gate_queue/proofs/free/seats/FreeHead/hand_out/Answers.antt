use Rattle.gate_queue.specs.FreeViews.{known_by}
use Rattle.gate_queue.proofs.FreeHeads.{front_told, right_after_front}
use Rattle.gate_queue.proofs.free.seats.FreeHead.hand_out.Goals as goal

pub invariant_of-self : goal.invariant_of-self
invariant_of-self g c = right_after_front _ _ _ _ _ _ c.self.invariant c.pop_front.ensures.items c.pop_front.ensures.capacity

pub returns-clause-some : goal.returns-clause-some
returns-clause-some g c = front_told _ _ (known_by c.self.inside.right) _ _ _ c.self.invariant.split c.self.view_is c.pop_front.ensures.items
