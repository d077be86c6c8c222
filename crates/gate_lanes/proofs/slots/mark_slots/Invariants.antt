use Rattle.std.proofs.Common.{◌≡◌}
use Rattle.gate_lanes.proofs.Rows.{marked_first}
use Rattle.gate_lanes.proofs.slots.mark_slots.Given as goal

abbrev pub invariant-loop-slot : goal.invariant-loop-slot
invariant-loop-slot l = l.out ≡ marked_first l.cells l.rows l.id l.slot
