use Rattle.std.proofs.Common.{◌∙◌, arith}
use Rattle.gate_record.specs.Limits.{most_approvals}
use Rattle.gate_record.proofs.Kept.{full, none, room}
use Rattle.gate_record.proofs.approvals.push_approval.Goals as goal

pub returns-then-len-ge-MAX_APPROVALS : goal.returns-then-len-ge-MAX_APPROVALS
returns-then-len-ge-MAX_APPROVALS c = full most_approvals c.args.approvals.now _ c.requires (omega (arith, c.len.ensures, c.if-len-ge-MAX_APPROVALS.true))

pub returns-in_ok-push : goal.returns-in_ok-push
returns-in_ok-push c =
    rw (← c.in_ok-approval.ensures, c.in-Some.is)
    (c.in_ok-push.ensures ∙ room most_approvals c.args.approvals.now c.in-Some.approval (omega (arith, c.len.ensures, c.if-len-ge-MAX_APPROVALS.false)))

pub returns-in_default : goal.returns-in_default
returns-in_default c =
    rw (← c.in_ok-approval.ensures, c.in_default.is)
    (none most_approvals c.args.approvals.now (omega (arith, c.len.ensures, c.if-len-ge-MAX_APPROVALS.false)))
