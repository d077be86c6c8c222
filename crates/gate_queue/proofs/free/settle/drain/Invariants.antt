use Rattle.std.proofs.Common.{◌≡◌, ◌+◌, ◌≤◌, ◌-◌, ◌++◌, List, length, vec_len}
use Rattle.std.specs.Vec.{vec_capacity}
use Rattle.crossbeam_queue.specs.SegTies.{IsSegPassOf}
use Rattle.gate_queue.specs.declared.tagged.Tagged.{Tagged}
use Rattle.gate_queue.specs.declared.known.Known.TheVariants.{Taker}
use Rattle.gate_queue.specs.Views.{as_taker}
use Rattle.gate_queue.specs.Inner.Views.{with_more}
use Rattle.gate_queue.specs.FreeViews.{known_by}
use Rattle.gate_queue.proofs.free.settle.drain.Given as goal

abbrev pub invariant-loop-item : goal.invariant-loop-item
invariant-loop-item g l =
    IsSegPassOf l.blocks l.right × (vec_capacity l.rest ≡ vec_capacity l.fn.rest)
    × ((more : List (Tagged g.row.T.Denot)) × (l.rest.items ≡ l.fn.rest.items ++ more) × (known_by l.right ≡ Taker (with_more (as_taker (known_by l.fn.right)) more)) × (length more ≤ l.count))

abbrev pub decreases-loop-item : goal.decreases-loop-item
decreases-loop-item g l = l.count + length l.fn.rest.items - vec_len l.rest
