use Rattle.std.proofs.Common.{refl}
use Rattle.gate_queue.proofs.FreeKeeps.{free_plans}
use Rattle.gate_queue.proofs.free.opening.plan.Goals as goal

pub another-counted-requires-clause-rule : goal.another-counted-requires-clause-rule
another-counted-requires-clause-rule g c = free_plans _ _ _ c.loop-planned.invariant.1 refl refl
