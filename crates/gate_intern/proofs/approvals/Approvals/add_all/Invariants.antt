use Rattle.std.proofs.Common.{◌≡◌, take}
use Rattle.indexmap.specs.IndexSet.{insert_all}
use Rattle.gate_intern.specs.Columns.{is_same_vote}
use Rattle.gate_intern.proofs.approvals.Approvals.add_all.Given as goal

abbrev pub invariant-loop-approval : goal.invariant-loop-approval
invariant-loop-approval l = l.self ≡ insert_all is_same_vote l.initial.self (take l.approval-index l.approval-items)
