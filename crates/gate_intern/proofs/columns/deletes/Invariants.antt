use Rattle.std.proofs.Common.{◌≡◌, take}
use Rattle.gate_intern.specs.Columns.{deletes_of}
use Rattle.gate_intern.proofs.columns.deletes.Given as goal

abbrev pub invariant-loop-event : goal.invariant-loop-event
invariant-loop-event l = l.marks.items ≡ deletes_of (take l.event-index l.events)
