use Rattle.std.proofs.Common.{◌≡◌, ◌+◌, ◌≤◌, ◌++◌, List}
use Rattle.std.specs.VecDeque.{deque_len, deque_capacity}
use Rattle.crossbeam_queue.specs.SegBatches.{Holds}
use Rattle.crossbeam_queue.specs.SegTies.{IsSegPassOf}
use Rattle.gate_queue.specs.declared.tagged.Tagged.{Tagged}
use Rattle.gate_queue.specs.FreeViews.{known_by}
use Rattle.gate_queue.proofs.free.batch.read_out.Given as goal

abbrev pub invariant-values : goal.invariant-values
invariant-values g l =
    IsSegPassOf l.blocks l.right × (known_by l.right ≡ known_by l.initial.right) × (deque_capacity l.ready ≡ deque_capacity l.initial.ready) × (deque_len l.ready + l.batch.len ≤ deque_capacity l.ready)
    × ((xs : List (Tagged g.row.T.Denot)) → Holds l.blocks l.initial.right l.initial.batch xs → (left : List (Tagged g.row.T.Denot)) × (l.ready.items ++ left ≡ xs) × Holds l.blocks l.right l.batch left)

abbrev pub decreases-values : goal.decreases-values
decreases-values g l = l.batch.len
