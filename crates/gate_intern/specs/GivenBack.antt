-- Laws that the columns of a batch give its events back.
use Rattle.std.specs.Prelude.{◌≡◌, ◌==◌, ◌+◌, ◌*◌, ℕ, zero, suc, List, map, length, slice_get, slice_index, is_none, Option, Some, None}
use Rattle.std.specs.List.{filter_map, range_with_len, IsDistinct}
use Rattle.std.specs.Str.{bytes_eq}
use Rattle.gate_record.specs.declared.event.Event.{Event}
use Rattle.gate_intern.specs.Columns.{approval_cells_of, approvals_of, column_of, field_of, is_same_vote, slots_of, texts_of}
use Rattle.gate_intern.specs.declared.field.Field.{Field}

-- the key that a number stands for: the key at the place before it, and none for 0
abbrev pub named : {A : Type 0} → List A → ℕ → Option A
named keys zero = None
named keys (suc place) = slice_get keys place

-- The texts that a column's numbers stand for are the field's texts in the events, missing ones included.
abbrev pub FieldsComeBack : Type 0
FieldsComeBack = (field : Field) (events : List Event) → map (named (texts_of field events)) (column_of field events) ≡ map (field_of field) events

-- A column is 0 exactly where the event lacks the field.
abbrev pub ZeroIsMissing : Type 0
ZeroIsMissing = (field : Field) (events : List Event) → map (λ number. number == 0) (column_of field events) ≡ map (λ event. is_none (field_of field event)) events

-- No text of a field has two numbers.
abbrev pub TextsAreDistinct : Type 0
TextsAreDistinct = (field : Field) (events : List Event) → IsDistinct bytes_eq (texts_of field events)

-- the numbers in the cells of one event
abbrev pub row_of : List Event → ℕ → List ℕ
row_of events row = map (λ slot. slice_index (approval_cells_of events) (slot * length events + row)) (range_with_len 0 (slots_of events))

-- The approvals that these numbers stand for are the event's approvals, in order.
abbrev pub ApprovalsComeBack : Type 0
ApprovalsComeBack = (events : List Event) (row : ℕ) (event : Event) → slice_get events row ≡ Some event → filter_map (named (approvals_of events)) (row_of events row) ≡ event.approvals

-- No approval has two numbers.
abbrev pub ApprovalsAreDistinct : Type 0
ApprovalsAreDistinct = (events : List Event) → IsDistinct is_same_vote (approvals_of events)
