use Rattle.std.proofs.Common.{◌≡◌, ◌+◌, ◌≤◌, ◌++◌, List, length, vec_len}
use Rattle.std.specs.Vec.{vec_capacity}
use Rattle.crossbeam_queue.specs.SegTies.{IsSegPassOf}
use Rattle.gate_queue.specs.declared.known.Known.TheVariants.{Taker}
use Rattle.gate_queue.specs.Seats.{in_blocks}
use Rattle.gate_queue.specs.Views.{as_taker}
use Rattle.gate_queue.specs.Inner.Views.{with_joined, seats_from}
use Rattle.gate_queue.specs.FreeViews.{known_by}
use Rattle.gate_queue.proofs.free.settle.part.Given as goal

abbrev pub invariant-loop-sender : goal.invariant-loop-sender
invariant-loop-sender g l =
    let v = as_taker (known_by l.fn.right) in
    IsSegPassOf l.blocks l.right × (vec_len l.tails ≡ l.sender) × (l.senders ≤ vec_capacity l.tails)
    × ((left : List (List g.row.T.Denot)) × (l.sender + length left ≡ l.senders) × (known_by l.right ≡ Taker (with_joined v left))
    × (l.tails.items ++ seats_from (in_blocks l.blocks.web) l.senders l.sender left ≡ seats_from (in_blocks l.blocks.web) l.senders 0 v.joined))
