-- Laws about masks over the columns of a batch.
use Rattle.std.specs.Prelude.{◌≡◌, ℕ, ℤ, List, map, filter, length, Bool, false, Option, Some, None}
use Rattle.std.specs.List.{enumerate_from, list_any}
use Rattle.gate_record.specs.declared.event.Event.{Event}
use Rattle.gate_lanes.specs.Masks.{mark_if, marked_any, marked_slots}
use Rattle.gate_intern.specs.Columns.{approval_cells_of, approvals_of, column_of, field_of, is_same_vote, number_among, texts_of}
use Rattle.gate_intern.specs.declared.field.Field.{Field}

-- the numbers of the keys that pass a test, where n is the number of the first key
abbrev pub numbers_from : {A : Type 0} → ℕ → (A → Bool) → List A → List ℕ
numbers_from n test keys = map (λ entry. entry.0) (filter (λ entry. test entry.1) (enumerate_from n keys))

-- the numbers in a column of the keys that pass a test; the first key is 1, since 0 stands for none
abbrev pub numbers_where : {A : Type 0} → (A → Bool) → List A → List ℕ
numbers_where test keys = numbers_from 1 test keys

-- There is a value, and it passes the test.
abbrev pub passes : {A : Type 0} → (A → Bool) → Option A → Bool
passes test None = false
passes test (Some value) = test value

-- The numbers of those texts of a field that pass a test mark the events that have the field and whose text passes.
abbrev pub TextsMarkTheirEvents : Type 0
TextsMarkTheirEvents = (field : Field) (events : List Event) (test : List ℕ → Bool) → marked_any (numbers_where test (texts_of field events)) (column_of field events) ≡ map (λ event. mark_if (passes test (field_of field event))) events

-- An approval's number marks the events that have the approval, so none if no event has it.
abbrev pub ApprovalsMarkTheirEvents : Type 0
ApprovalsMarkTheirEvents = (events : List Event) (vote : List ℕ × ℤ) → marked_slots (approval_cells_of events) (length events) (number_among is_same_vote (approvals_of events) (Some vote)) ≡ map (λ event. mark_if (list_any (is_same_vote vote) event.approvals)) events
