use Rattle.std.proofs.Common.{◌≡◌, ◌≤◌, vec_len}
use Rattle.std.specs.Vec.{vec_capacity}
use Rattle.crossbeam_queue.specs.Passes.{view, IsPassOf}
use Rattle.gate_queue.specs.Seats.{in_table}
use Rattle.gate_queue.specs.Inner.Sharing.{opening}
use Rattle.gate_queue.specs.Inner.Views.{AreNew}
use Rattle.gate_queue.proofs.opening.seat.Given as goal

abbrev pub invariant-loop-sender : goal.invariant-loop-sender
invariant-loop-sender g l =
    IsPassOf l.places l.right × (view l.right ≡ opening l.senders l.sender) × (l.senders ≤ vec_capacity l.tails) × (vec_len l.tails ≡ l.sender)
    × AreNew (in_table l.places.table.shared.table_id) l.senders l.tails.items
