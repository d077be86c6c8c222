use Rattle.std.proofs.Common.{◌≡◌, ◌++◌, take}
use Rattle.gate_intern.specs.Columns.{slot_of}
use Rattle.gate_intern.proofs.approvals.Approvals.push_slot.Given as goal

abbrev pub invariant-loop-event : goal.invariant-loop-event
invariant-loop-event l = l.cells.items ≡ l.initial.cells.items ++ slot_of l.self (take l.event-index l.events) l.place
