use Rattle.std.proofs.Common.{◌≡◌, []}
use Rattle.std.specs.VecDeque.{deque_capacity}
use Rattle.crossbeam_queue.specs.SegTies.{IsSegPassOf}
use Rattle.gate_queue.specs.FreeViews.{known_by}
use Rattle.gate_queue.proofs.free.batch.fill.Given as goal

abbrev pub invariant-attempts : goal.invariant-attempts
invariant-attempts g l = IsSegPassOf l.blocks l.right × (known_by l.right ≡ known_by l.initial.right) × (l.ready.items ≡ []) × (deque_capacity l.ready ≡ deque_capacity l.initial.ready)
