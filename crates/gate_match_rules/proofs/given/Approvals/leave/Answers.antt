use Rattle.std.proofs.Common.{◌∙◌, ap, sym, length, map, ℕ, List, Bool}
use Rattle.std.specs.List.{range_with_len}
use Rattle.std.proofs.lemmas.List.FromFn.{length-map-range_with_len}
use Rattle.gate_record.specs.declared.event.Event.{Event}
use Rattle.gate_rule.specs.Rule.{is_given}
use Rattle.gate_intern.specs.Columns.{approval_cells_of}
use Rattle.gate_lanes.specs.Masks.{is_in_row}
use Rattle.gate_match_rules.specs.Marks.{both}
use Rattle.gate_match_rules.proofs.Attributes.{none_left_in}
use Rattle.gate_match_rules.proofs.Results.{anyway}
use Rattle.gate_match_rules.proofs.Votes.{given_is}
use Rattle.gate_match_rules.proofs.given.Approvals.leave.Goals as goal

-- the rows that have the number in a cell
abbrev with : List Event → ℕ → List Bool
with events number = map (is_in_row (approval_cells_of events) (length events) number) (range_with_len 0 (length events))

pub returns-then-is_none-clause-leaves : goal.returns-then-is_none-clause-leaves
returns-then-is_none-clause-leaves c =
    none_left_in c.args.out.now (λ (event : Event). is_given c.args.wanted.now event.approvals) c.args.columns.now (sym c.is_none.ensures ∙ c.if-is_none.true) c.requires.1

pub and-requires : goal.and-requires
and-requires c =
    let events = c.args.columns.now in
    ap length (c.in-Some.ensures events c.requires.0)
    ∙ length-map-range_with_len (is_in_row (approval_cells_of events) (length events) c.in_ok-number.number) 0 (length events) ∙ sym c.requires.1

pub returns-in-Some-clause-leaves : goal.returns-in-Some-clause-leaves
returns-in-Some-clause-leaves c =
    let events = c.args.columns.now in
    c.and.ensures.value
    ∙ ap (both c.args.out.now) (c.in-Some.ensures events c.requires.0 ∙ ap (with events) c.in_ok-number.ensures ∙ given_is c.approvals_mark_their_events.ensures events c.args.wanted.now)

pub and-requires-2 : goal.and-requires-2
and-requires-2 c =
    let events = c.args.columns.now in
    ap length c.in_ok-rows.ensures
    ∙ length-map-range_with_len (is_in_row (approval_cells_of events) (length events) c.in_ok-number.number) 0 (length events) ∙ sym c.requires.1

pub returns-clause-leaves : goal.returns-clause-leaves
returns-clause-leaves c =
    let events = c.args.columns.now in
    anyway c.keep.result _
    (c.and-2.ensures.value
    ∙ ap (both c.args.out.now) (c.in_ok-rows.ensures ∙ ap (with events) c.in_ok-number.ensures ∙ given_is c.approvals_mark_their_events.ensures events c.args.wanted.now))
