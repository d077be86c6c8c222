use Rattle.std.proofs.Common.{◌≡◌, take}
use Rattle.gate_intern.specs.Columns.{slots_of}
use Rattle.gate_intern.proofs.approvals.slots.Given as goal

abbrev pub invariant-loop-event : goal.invariant-loop-event
invariant-loop-event l = l.most ≡ slots_of (take l.event-index l.events)
