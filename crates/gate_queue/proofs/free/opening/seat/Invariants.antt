use Rattle.std.proofs.Common.{◌≡◌, ◌≤◌, vec_len}
use Rattle.std.specs.Vec.{vec_capacity}
use Rattle.crossbeam_queue.specs.SegTies.{IsSegPassOf}
use Rattle.gate_queue.specs.Seats.{in_blocks}
use Rattle.gate_queue.specs.Inner.Sharing.{opening}
use Rattle.gate_queue.specs.Inner.Views.{AreNew}
use Rattle.gate_queue.specs.FreeViews.{known_by}
use Rattle.gate_queue.proofs.free.opening.seat.Given as goal

abbrev pub invariant-loop-sender : goal.invariant-loop-sender
invariant-loop-sender g l =
    IsSegPassOf l.blocks l.right × (known_by l.right ≡ opening l.senders l.sender) × (l.senders ≤ vec_capacity l.tails) × (vec_len l.tails ≡ l.sender) × AreNew (in_blocks l.blocks.web) l.senders l.tails.items
