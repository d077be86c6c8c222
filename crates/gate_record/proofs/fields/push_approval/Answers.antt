use Rattle.std.proofs.Common.{◌<◌, ◌∙◌, ◌++◌, ap, arith, length, sym, take}
use Rattle.std.specs.Option.{option_to_list}
use Rattle.gate_record.specs.Limits.{most_approvals}
use Rattle.gate_record.proofs.Kept.{full, none, room}
use Rattle.gate_record.proofs.fields.push_approval.Goals as goal

pub returns-then-len-ge-MAX_APPROVALS-clause-added : goal.returns-then-len-ge-MAX_APPROVALS-clause-added
returns-then-len-ge-MAX_APPROVALS-clause-added c value begins = full most_approvals c.args.approvals.now _ c.requires (omega (arith, c.len.ensures, c.if-len-ge-MAX_APPROVALS.true))

pub returns-in_ok-push-in-Some-clause-added : goal.returns-in_ok-push-in-Some-clause-added
returns-in_ok-push-in-Some-clause-added c value begins =
    let less : length c.args.approvals.now < most_approvals = omega (arith, c.len.ensures, c.if-len-ge-MAX_APPROVALS.false) in
    c.in_ok-push-in-Some.ensures ∙ room most_approvals c.args.approvals.now c.in-Some.approval less
    ∙ ap (λ o. take most_approvals (c.args.approvals.now ++ option_to_list o)) (sym c.in-Some.is ∙ c.in_ok-approval.ensures value begins)

pub returns-in-None-clause-added : goal.returns-in-None-clause-added
returns-in-None-clause-added c value begins =
    let less : length c.args.approvals.now < most_approvals = omega (arith, c.len.ensures, c.if-len-ge-MAX_APPROVALS.false) in
    none most_approvals c.args.approvals.now less
    ∙ ap (λ o. take most_approvals (c.args.approvals.now ++ option_to_list o)) (sym c.in-None.is ∙ c.in_ok-approval.ensures value begins)
