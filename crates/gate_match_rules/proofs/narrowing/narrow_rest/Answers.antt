use Rattle.std.proofs.Common.{◌≡◌, ◌∙◌, ◌&&◌, not, ap, sym, true, Bool, List, map}
use Rattle.gate_record.specs.declared.event.Event.{Event}
use Rattle.gate_record.specs.Events.{is_delete}
use Rattle.gate_rule.specs.declared.rule.Rule.{Rule}
use Rattle.gate_rule.specs.Entry.{entry_within}
use Rattle.gate_rule.specs.Rule.{is_approved, is_met}
use Rattle.gate_intern.specs.declared.field.Field.TheVariants.{Username, Email, Comment}
use Rattle.gate_match_rules.specs.Compiling.{rule_of}
use Rattle.gate_match_rules.specs.Marks.{both, marks_any}
use Rattle.gate_match_rules.specs.Narrowing.{meeting_in, meeting_rest, entries_of}
use Rattle.gate_match_rules.proofs.Narrowed.{go, stop}
use Rattle.gate_match_rules.proofs.narrowing.narrow_rest.Goals as goal

abbrev username : Rule → Event → Bool
username rule event = is_met entry_within rule.username event.username

abbrev email : Rule → Event → Bool
email rule event = is_met entry_within rule.email event.email

abbrev comment : Rule → Event → Bool
comment rule event = is_met entry_within rule.comment event.comment

abbrev approval : Rule → Event → Bool
approval rule event = is_approved rule.approval event.approvals

abbrev stays : Rule → Event → Bool
stays rule event = not (rule.ignore_deletes && is_delete event)

abbrev account : Rule → Event → Bool
account rule event = username rule event && email rule event

abbrev texts : Rule → Event → Bool
texts rule event = account rule event && comment rule event

abbrev all_but_deletes : Rule → Event → Bool
all_but_deletes rule event = texts rule event && approval rule event

-- no row is left of the account, so the other attributes leave none
none_left : (rule : Rule) (out now : List Bool) (events : List Event) → now ≡ both out (map (account rule) events) → not (marks_any now) ≡ true → now ≡ both out (meeting_rest rule events)
none_left rule out now events is none =
    stop out events (all_but_deletes rule) (stays rule) now
    (stop out events (texts rule) (approval rule) now (stop out events (account rule) (comment rule) now is none) none) none

pub returns-then-is_none-clause-leaves : goal.returns-then-is_none-clause-leaves
returns-then-is_none-clause-leaves c =
    let out = c.args.out.now in
    let events = c.args.search.now.columns.now in
    let rule = rule_of c.args.rule.now in
    let none = sym c.is_none.ensures ∙ c.if-is_none.true in
    let one = c.in_ok-narrow_in.ensures.leaves ∙ ap (λ asked. both out (meeting_in Username (entries_of asked) events)) c.as_slice.ensures.value in
    none_left rule out _ events (stop out events (username rule) (email rule) _ one none) none

pub returns-then-is_none-2-clause-leaves : goal.returns-then-is_none-2-clause-leaves
returns-then-is_none-2-clause-leaves c =
    let out = c.args.out.now in
    let events = c.args.search.now.columns.now in
    let rule = rule_of c.args.rule.now in
    let none = sym c.is_none-2.ensures ∙ c.if-is_none-2.true in
    let one = c.in_ok-narrow_in.ensures.leaves ∙ ap (λ asked. both out (meeting_in Username (entries_of asked) events)) c.as_slice.ensures.value in
    let two = c.in_ok-narrow_in-2.ensures.leaves ∙ ap (λ asked. both c.narrow_in.new.out (meeting_in Email (entries_of asked) events)) c.as_slice-2.ensures.value in
    none_left rule out _ events (go out events (username rule) (email rule) _ _ one two) none

pub returns-clause-leaves : goal.returns-clause-leaves
returns-clause-leaves c =
    let out = c.args.out.now in
    let events = c.args.search.now.columns.now in
    let rule = rule_of c.args.rule.now in
    let one = c.in_ok-narrow_in.ensures.leaves ∙ ap (λ asked. both out (meeting_in Username (entries_of asked) events)) c.as_slice.ensures.value in
    let two = c.in_ok-narrow_in-2.ensures.leaves ∙ ap (λ asked. both c.narrow_in.new.out (meeting_in Email (entries_of asked) events)) c.as_slice-2.ensures.value in
    let three = c.in_ok-narrow_in-3.ensures.leaves ∙ ap (λ asked. both c.narrow_in-2.new.out (meeting_in Comment (entries_of asked) events)) c.as_slice-3.ensures.value in
    go out events (all_but_deletes rule) (stays rule) _ _
    (go out events (texts rule) (approval rule) _ _
    (go out events (account rule) (comment rule) _ _
    (go out events (username rule) (email rule) _ _ one two) three) c.in_ok-narrow_approved.ensures.leaves) c.narrow_deletes.ensures.leaves
