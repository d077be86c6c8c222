use Rattle.std.proofs.Common.{◌≡◌}
use Rattle.crossbeam_queue.specs.Passes.{view, IsPassOf}
use Rattle.gate_queue.specs.Inner.Sharing.{opening}
use Rattle.gate_queue.proofs.opening.plan.Given as goal

abbrev pub invariant-loop-planned : goal.invariant-loop-planned
invariant-loop-planned g l = IsPassOf l.places l.right × (view l.right ≡ opening l._planned 0)
