-- Which events of a batch meet rules, attribute by attribute.
use Rattle.std.specs.Prelude.{◌&&◌, ℕ, ℤ, List, Bool, Some, not, map}
use Rattle.std.specs.List.{list_any}
use Rattle.gate_record.specs.declared.event.Event.{Event}
use Rattle.gate_record.specs.Events.{is_delete}
use Rattle.gate_rule.specs.declared.entry.Entry.{Entry}
use Rattle.gate_rule.specs.declared.rule.Rule.{Rule}
use Rattle.gate_rule.specs.Entry.{entry_front, entry_within}
use Rattle.gate_rule.specs.Rule.{is_approved, is_given, is_met, meets}
use Rattle.gate_intern.specs.declared.field.Field.{Field}
use Rattle.gate_intern.specs.Columns.{field_of}
use Rattle.gate_intern.specs.Marks.{passes}
use Rattle.gate_match_rules.specs.declared.asked.Asked.{Asked}
use Rattle.gate_match_rules.specs.Finding.{entry_meets, reach_of}

abbrev pub entries_of : List Asked → List Entry
entries_of asked = map (λ (one : Asked). one.entry.now) asked

-- the events whose field meets one of the entries
abbrev pub any_met_in : Field → List Entry → List Event → List Bool
any_met_in field entries events = map (λ event. list_any (λ entry. passes (entry_meets (reach_of field) entry) (field_of field event)) entries) events

-- the events that meet an attribute with these entries on this field
abbrev pub meeting_in : Field → List Entry → List Event → List Bool
meeting_in field entries events = map (λ event. is_met (entry_meets (reach_of field)) entries (field_of field event)) events

-- the events that have the category with this vote
abbrev pub given_to : List ℕ × ℤ → List Event → List Bool
given_to wanted events = map (λ event. is_given wanted event.approvals) events

abbrev pub approved : List (List ℕ × ℤ) → List Event → List Bool
approved asked events = map (λ event. is_approved asked event.approvals) events

-- the events that aren't a deletion which is ignored
abbrev pub not_ignored : Bool → List Event → List Bool
not_ignored ignores events = map (λ event. not (ignores && is_delete event)) events

-- the events that meet the attributes of a rule which are looked at first
abbrev pub meeting_front : Rule → List Event → List Bool
meeting_front rule events =
    map (λ (event : Event). is_met entry_front rule.event (Some event.kind) && is_met entry_front rule.branch event.branch && is_met entry_front rule.refname event.refname) events

-- the events that meet the other attributes of a rule
abbrev pub meeting_rest : Rule → List Event → List Bool
meeting_rest rule events =
    map (λ (event : Event). is_met entry_within rule.username event.username && is_met entry_within rule.email event.email && is_met entry_within rule.comment event.comment
    && is_approved rule.approval event.approvals && not (rule.ignore_deletes && is_delete event)) events

-- the events that meet a rule
abbrev pub meeting : Rule → List Event → List Bool
meeting rule events = map (λ event. meets rule event) events

-- the events that meet one of the rules
abbrev pub meeting_any : List Rule → List Event → List Bool
meeting_any rules events = map (λ event. list_any (λ rule. meets rule event) rules) events
