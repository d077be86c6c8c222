use Rattle.std.proofs.Common.{◌≡◌, take}
use Rattle.gate_intern.specs.Columns.{approvals_of}
use Rattle.gate_intern.proofs.approvals.Approvals.new.Given as goal

abbrev pub invariant-loop-event : goal.invariant-loop-event
invariant-loop-event l = l.approvals ≡ approvals_of (take l.event-index l.events)
