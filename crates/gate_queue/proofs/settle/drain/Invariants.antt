use Rattle.std.proofs.Common.{◌≡◌, ◌≤◌, ◌-◌, vec_len}
use Rattle.std.specs.Vec.{vec_capacity}
use Rattle.crossbeam_queue.specs.Passes.{view, IsPassOf, ruled_capacity}
use Rattle.gate_queue.specs.declared.known.Known.TheVariants.{Taker}
use Rattle.gate_queue.specs.Views.{as_taker}
use Rattle.gate_queue.specs.Inner.Views.{with_more}
use Rattle.gate_queue.proofs.settle.drain.Given as goal

abbrev pub invariant-loop-item : goal.invariant-loop-item
invariant-loop-item g l =
    IsPassOf l.places l.right × (view l.right ≡ Taker (with_more (as_taker (view l.fn.right)) l.rest.items)) × (ruled_capacity l.places ≤ vec_capacity l.rest) × (vec_len l.rest ≤ l.count)

abbrev pub decreases-loop-item : goal.decreases-loop-item
decreases-loop-item g l = l.count - vec_len l.rest
