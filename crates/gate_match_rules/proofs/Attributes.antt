-- An attribute of patterns over a batch.
use Rattle.std.proofs.Common.{◌≡◌, ◌∙◌, refl, sym, ap, not, map, ℕ, ◌==◌, Bool, true, false, List, [], ◌∷◌, length, Option, Some, None, arith}
use Rattle.std.specs.List.{list_any}
use Rattle.gate_record.specs.declared.event.Event.{Event}
use Rattle.gate_rule.specs.declared.entry.Entry.{Entry}
use Rattle.gate_rule.specs.Rule.{is_met}
use Rattle.gate_intern.specs.declared.field.Field.{Field}
use Rattle.gate_intern.specs.Columns.{field_of}
use Rattle.gate_intern.specs.Marks.{passes}
use Rattle.gate_match_rules.specs.declared.asked.Asked.{Asked}
use Rattle.gate_match_rules.specs.Finding.{entry_meets, reach_of}
use Rattle.gate_match_rules.specs.Marks.{both, marks_any}
use Rattle.gate_match_rules.specs.Narrowing.{any_met_in, meeting_in, entries_of}
use Rattle.gate_match_rules.proofs.Rows.{both_all, map_alike, none_left, not_true}

none_passes : (test : Entry → List ℕ → Bool) (entries : List Entry) → list_any (λ entry. passes (test entry) None) entries ≡ false
none_passes test [] = refl
none_passes test (p ∷ ps) = none_passes test ps

one_met : (test : Entry → List ℕ → Bool) (p : Entry) (ps : List Entry) (text : Option (List ℕ)) →
    list_any (λ entry. passes (test entry) text) (p ∷ ps) ≡ is_met test (p ∷ ps) text
one_met test p ps None = none_passes test ps
one_met test p ps (Some text) = refl

-- with no pattern all events meet it
pub none_asked : (field : Field) (asked : List Asked) (ys : List Bool) (events : List Event) → (length asked == 0) ≡ true → length ys ≡ length events →
    ys ≡ both ys (meeting_in field (entries_of asked) events)
none_asked field [] ys events e same = sym (both_all ys events same)
none_asked field (a ∷ asked) ys events e same = absurd (grind (arith, e))

-- with some the events whose field meets one
pub some_asked : (field : Field) (asked : List Asked) (events : List Event) → (length asked == 0) ≡ false →
    any_met_in field (entries_of asked) events ≡ meeting_in field (entries_of asked) events
some_asked field [] events e = absurd cc
some_asked field (a ∷ asked) events e =
    map_alike (λ event. list_any (λ entry. passes (entry_meets (reach_of field) entry) (field_of field event)) (entries_of (a ∷ asked)))
    (λ event. is_met (entry_meets (reach_of field)) (entries_of (a ∷ asked)) (field_of field event)) events
    (λ event. one_met (entry_meets (reach_of field)) a.entry.now (entries_of asked) (field_of field event))

-- where no row is left
pub none_left_in : (ys : List Bool) (f : Event → Bool) (events : List Event) → not (marks_any ys) ≡ true → length ys ≡ length events → ys ≡ both ys (map f events)
none_left_in ys f events e same =
    let all = both_all ys events same in
    sym all ∙ none_left (λ (event : Event). true) f ys events (ap marks_any all ∙ not_true (marks_any ys) e)
