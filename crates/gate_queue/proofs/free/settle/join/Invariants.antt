use Rattle.std.proofs.Common.{◌≡◌, ◌++◌, List, map, vec_len}
use Rattle.std.specs.Vec.{vec_capacity}
use Rattle.crossbeam_queue.specs.SegTies.{IsSegPassOf}
use Rattle.gate_queue.specs.declared.known.Known.TheVariants.{Taker}
use Rattle.gate_queue.specs.Seats.{SenderSeat}
use Rattle.gate_queue.specs.Views.{as_taker}
use Rattle.gate_queue.specs.Inner.Views.{with_joined}
use Rattle.gate_queue.specs.FreeViews.{known_by}
use Rattle.gate_queue.proofs.free.settle.join.Given as goal

abbrev pub invariant-loop-tail : goal.invariant-loop-tail
invariant-loop-tail g l =
    IsSegPassOf l.blocks l.right × (vec_capacity l.tails ≡ vec_capacity l.fn.tails)
    × ((done : List (SenderSeat g.row.T.Denot)) × (l.tails.items ++ done ≡ l.fn.tails.items)
    × (known_by l.right ≡ Taker (with_joined (as_taker (known_by l.fn.right)) (map (λ (tail : SenderSeat g.row.T.Denot). tail.put) done))))

abbrev pub decreases-loop-tail : goal.decreases-loop-tail
decreases-loop-tail g l = vec_len l.tails
