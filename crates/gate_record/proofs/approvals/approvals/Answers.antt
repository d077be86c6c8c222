use Rattle.std.proofs.Common.{◌∙◌, ◌++◌, ap, take}
use Rattle.std.specs.Option.{option_to_list}
use Rattle.serde_json.specs.View.{view}
use Rattle.gate_record.specs.Approvals.{approval_of}
use Rattle.gate_record.specs.Limits.{most_approvals}
use Rattle.gate_record.proofs.Kept.{few, kept_more}
use Rattle.gate_record.proofs.approvals.approvals.Goals as goal

pub push_approval-requires : goal.push_approval-requires
push_approval-requires c = rw c.loop-entry.invariant (few most_approvals _)

pub loop-entry-preserved : goal.loop-entry-preserved
loop-entry-preserved c =
    c.in_ok-push_approval.ensures
    ∙ ap (λ kept. take most_approvals (kept ++ option_to_list (approval_of (view c.entry-item.result)))) c.loop-entry.invariant
    ∙ kept_more most_approvals approval_of view c.items_member-entry-items.result.now c.loop-entry.entry-index c.entry-item.result c.loop-entry-test.true c.entry-item.is
