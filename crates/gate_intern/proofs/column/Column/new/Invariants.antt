use Rattle.std.proofs.Common.{◌≡◌, take}
use Rattle.gate_intern.specs.Columns.{column_at}
use Rattle.gate_intern.proofs.column.Column.new.Given as goal

abbrev pub invariant-loop-event : goal.invariant-loop-event
invariant-loop-event l = l.column ≡ column_at l.field (take l.event-index l.events)
