-- When an event meets a trigger rule.
use Rattle.std.specs.Prelude.{◌&&◌, ℕ, ℤ, List, [], ◌∷◌, Bool, true, false, not, Option, Some, None}
use Rattle.std.specs.List.{list_all, list_any}
use Rattle.std.specs.Ordering.{int_eq}
use Rattle.std.specs.Str.{bytes_eq}
use Rattle.gate_record.specs.Events.{is_delete}
use Rattle.gate_record.specs.declared.event.Event.{Event}
use Rattle.gate_rule.specs.declared.entry.Entry.{Entry}
use Rattle.gate_rule.specs.declared.rule.Rule.{Rule}
use Rattle.gate_rule.specs.Entry.{entry_front, entry_within}

-- An attribute whose entries are tried on a field is met if one entry is met. An attribute without entries isn't listed, and asks
-- nothing. A listed attribute whose field is missing isn't met, whether its entries are negated or not.
abbrev pub is_met : (Entry → List ℕ → Bool) → List Entry → Option (List ℕ) → Bool
is_met meets [] field = true
is_met meets (entry ∷ entries) None = false
is_met meets (entry ∷ entries) (Some text) = list_any (λ e. meets e text) (entry ∷ entries)

-- The category is among the approvals, with this vote.
abbrev pub is_given : List ℕ × ℤ → List (List ℕ × ℤ) → Bool
is_given wanted given = list_any (λ approval. bytes_eq approval.0 wanted.0 && int_eq approval.1 wanted.1) given

-- Each approval that a rule asks for is among those of the event.
abbrev pub is_approved : List (List ℕ × ℤ) → List (List ℕ × ℤ) → Bool
is_approved asked given = list_all (λ wanted. is_given wanted given) asked

-- The event meets each listed attribute, and isn't a deletion that the rule ignores.
abbrev pub meets : Rule → Event → Bool
meets rule event =
    is_met entry_front rule.event (Some event.kind)
    && is_met entry_front rule.branch event.branch
    && is_met entry_front rule.refname event.refname
    && is_met entry_within rule.username event.username
    && is_met entry_within rule.email event.email
    && is_met entry_within rule.comment event.comment
    && is_approved rule.approval event.approvals
    && not (rule.ignore_deletes && is_delete event)
