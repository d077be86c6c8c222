use Rattle.std.proofs.Common.{◌≡◌}
use Rattle.std.specs.Prelude.{flat_map}
use Rattle.std.specs.List.{range_with_len}
use Rattle.gate_intern.specs.Columns.{slot_of}
use Rattle.gate_intern.proofs.approvals.Approvals.cells.Given as goal

abbrev pub invariant-loop-place : goal.invariant-loop-place
invariant-loop-place l = l.cells.items ≡ flat_map (slot_of l.self l.events) (range_with_len 0 l.place)
