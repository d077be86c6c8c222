use Rattle.std.proofs.Common.{◌∙◌, ◌&&◌, ap, sym, Bool, Some}
use Rattle.gate_record.specs.declared.event.Event.{Event}
use Rattle.gate_rule.specs.declared.rule.Rule.{Rule}
use Rattle.gate_rule.specs.Entry.{entry_front}
use Rattle.gate_rule.specs.Rule.{is_met}
use Rattle.gate_intern.specs.declared.field.Field.TheVariants.{Kind, Branch, Refname}
use Rattle.gate_match_rules.specs.Compiling.{rule_of}
use Rattle.gate_match_rules.specs.Marks.{both}
use Rattle.gate_match_rules.specs.Narrowing.{meeting_in, entries_of}
use Rattle.gate_match_rules.proofs.Narrowed.{go, on_ok, stop}
use Rattle.gate_match_rules.proofs.narrowing.narrow_front.Goals as goal

abbrev kind : Rule → Event → Bool
kind rule event = is_met entry_front rule.event (Some event.kind)

abbrev branch : Rule → Event → Bool
branch rule event = is_met entry_front rule.branch event.branch

abbrev refname : Rule → Event → Bool
refname rule event = is_met entry_front rule.refname event.refname

pub returns-then-is_none-clause-leaves : goal.returns-then-is_none-clause-leaves
returns-then-is_none-clause-leaves c =
    let out = c.args.out.now in
    let events = c.args.search.now.columns.now in
    let rule = rule_of c.args.rule.now in
    let none = sym c.is_none.ensures ∙ c.if-is_none.true in
    let one = c.in_ok-narrow_in.ensures.leaves ∙ ap (λ asked. both out (meeting_in Kind (entries_of asked) events)) c.as_slice.ensures.value in
    stop out events (λ event. kind rule event && branch rule event) (refname rule) _ (stop out events (kind rule) (branch rule) _ one none) none

pub returns-then-is_none-2-clause-leaves : goal.returns-then-is_none-2-clause-leaves
returns-then-is_none-2-clause-leaves c =
    let out = c.args.out.now in
    let events = c.args.search.now.columns.now in
    let rule = rule_of c.args.rule.now in
    let none = sym c.is_none-2.ensures ∙ c.if-is_none-2.true in
    let one = c.in_ok-narrow_in.ensures.leaves ∙ ap (λ asked. both out (meeting_in Kind (entries_of asked) events)) c.as_slice.ensures.value in
    let two = c.in_ok-narrow_in-2.ensures.leaves ∙ ap (λ asked. both c.narrow_in.new.out (meeting_in Branch (entries_of asked) events)) c.as_slice-2.ensures.value in
    stop out events (λ event. kind rule event && branch rule event) (refname rule) _ (go out events (kind rule) (branch rule) _ _ one two) none

pub returns-clause-leaves : goal.returns-clause-leaves
returns-clause-leaves c =
    let out = c.args.out.now in
    let events = c.args.search.now.columns.now in
    let rule = rule_of c.args.rule.now in
    let one = c.in_ok-narrow_in.ensures.leaves ∙ ap (λ asked. both out (meeting_in Kind (entries_of asked) events)) c.as_slice.ensures.value in
    let two = c.in_ok-narrow_in-2.ensures.leaves ∙ ap (λ asked. both c.narrow_in.new.out (meeting_in Branch (entries_of asked) events)) c.as_slice-2.ensures.value in
    on_ok c.narrow_in-3.result _ _
    (λ three. go out events (λ event. kind rule event && branch rule event) (refname rule) _ _ (go out events (kind rule) (branch rule) _ _ one two)
    (three ∙ ap (λ asked. both c.narrow_in-2.new.out (meeting_in Refname (entries_of asked) events)) c.as_slice-3.ensures.value)) c.narrow_in-3.ensures.leaves
