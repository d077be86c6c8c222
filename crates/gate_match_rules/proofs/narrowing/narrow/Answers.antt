use Rattle.std.proofs.Common.{◌≡◌, ◌∙◌, ◌&&◌, not, sym, Bool, Some}
use Rattle.gate_record.specs.declared.event.Event.{Event}
use Rattle.gate_record.specs.Events.{is_delete}
use Rattle.gate_rule.specs.declared.rule.Rule.{Rule}
use Rattle.gate_rule.specs.Entry.{entry_front, entry_within}
use Rattle.gate_rule.specs.Rule.{is_approved, is_met, meets}
use Rattle.gate_match_rules.specs.Compiling.{rule_of}
use Rattle.gate_match_rules.proofs.Narrowed.{go, on_ok, regroup, stop}
use Rattle.gate_match_rules.proofs.Rows.{both_alike}
use Rattle.gate_match_rules.proofs.narrowing.narrow.Goals as goal

abbrev first : Rule → Event → Bool
first rule event = is_met entry_front rule.event (Some event.kind) && is_met entry_front rule.branch event.branch && is_met entry_front rule.refname event.refname

abbrev rest : Rule → Event → Bool
rest rule event =
    is_met entry_within rule.username event.username && is_met entry_within rule.email event.email && is_met entry_within rule.comment event.comment
    && is_approved rule.approval event.approvals && not (rule.ignore_deletes && is_delete event)

whole : (rule : Rule) (event : Event) → (first rule event && rest rule event) ≡ meets rule event
whole rule event =
    regroup (first rule event) (is_met entry_within rule.username event.username) (is_met entry_within rule.email event.email) (is_met entry_within rule.comment event.comment)
    (is_approved rule.approval event.approvals) (not (rule.ignore_deletes && is_delete event))

pub returns-then-is_none-clause-leaves : goal.returns-then-is_none-clause-leaves
returns-then-is_none-clause-leaves c =
    let rule = rule_of c.args.rule.now in
    stop c.args.out.now c.args.search.now.columns.now (first rule) (rest rule) _ c.in_ok-narrow_front.ensures.leaves (sym c.is_none.ensures ∙ c.if-is_none.true)
    ∙ both_alike (λ event. first rule event && rest rule event) (meets rule) c.args.out.now c.args.search.now.columns.now (whole rule)

pub returns-clause-leaves : goal.returns-clause-leaves
returns-clause-leaves c =
    let rule = rule_of c.args.rule.now in
    on_ok c.narrow_rest.result _ _
    (λ more. go c.args.out.now c.args.search.now.columns.now (first rule) (rest rule) _ _ c.in_ok-narrow_front.ensures.leaves more
    ∙ both_alike (λ event. first rule event && rest rule event) (meets rule) c.args.out.now c.args.search.now.columns.now (whole rule)) c.narrow_rest.ensures.leaves
