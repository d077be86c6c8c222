use Rattle.std.proofs.Common.{◌≡◌, ◌++◌, List, map, vec_len}
use Rattle.crossbeam_queue.specs.Passes.{view, IsPassOf}
use Rattle.gate_queue.specs.declared.known.Known.TheVariants.{Taker}
use Rattle.gate_queue.specs.Seats.{SenderSeat}
use Rattle.gate_queue.specs.Views.{as_taker}
use Rattle.gate_queue.specs.Inner.Views.{with_joined}
use Rattle.gate_queue.proofs.settle.join.Given as goal

abbrev pub invariant-loop-tail : goal.invariant-loop-tail
invariant-loop-tail g l =
    IsPassOf l.places l.right
    × ((done : List (SenderSeat g.row.T.Denot)) × (l.tails.items ++ done ≡ l.fn.tails.items)
    × (view l.right ≡ Taker (with_joined (as_taker (view l.fn.right)) (map (λ (tail : SenderSeat g.row.T.Denot). tail.put) done))))

abbrev pub decreases-loop-tail : goal.decreases-loop-tail
decreases-loop-tail g l = vec_len l.tails
