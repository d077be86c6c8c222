use Rattle.gate_queue.proofs.FreeKeeps.{free_begins, taker_begins}
use Rattle.gate_queue.proofs.free.opening.open_free.Goals as goal

pub with_rule-requires : goal.with_rule-requires
with_rule-requires g c = free_begins

pub another-begun-requires-clause-rule : goal.another-begun-requires-clause-rule
another-begun-requires-clause-rule g c = taker_begins _ _ c.in_ok-blocks.ensures.1 c.in_ok-blocks.ensures.2
