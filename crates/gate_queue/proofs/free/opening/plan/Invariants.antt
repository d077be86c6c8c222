use Rattle.std.proofs.Common.{◌≡◌}
use Rattle.crossbeam_queue.specs.SegTies.{IsSegPassOf}
use Rattle.gate_queue.specs.Inner.Sharing.{opening}
use Rattle.gate_queue.specs.FreeViews.{known_by}
use Rattle.gate_queue.proofs.free.opening.plan.Given as goal

abbrev pub invariant-loop-planned : goal.invariant-loop-planned
invariant-loop-planned g l = IsSegPassOf l.blocks l.right × (known_by l.right ≡ opening l._planned 0)
