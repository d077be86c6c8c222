-- The columns of a batch of events: a number for each event, and the text or approval that the number stands for.
use Rattle.std.specs.Prelude.{◌+◌, ◌&&◌, ℕ, ℤ, max, List, [], ◌∷◌, map, fold, flat_map, length, slice_get, Bool, Option, Some, None}
use Rattle.std.specs.List.{filter_map, position_or_len, range_with_len}
use Rattle.std.specs.Ordering.{int_eq}
use Rattle.std.specs.Str.{bytes_eq}
use Rattle.gate_record.specs.declared.event.Event.{Event}
use Rattle.gate_record.specs.EachOnce.{each_once}
use Rattle.gate_record.specs.Events.{is_delete}
use Rattle.gate_lanes.specs.Masks.{mark_if}
use Rattle.gate_intern.specs.declared.field.Field.{Field}
use Rattle.gate_intern.specs.declared.field.Field.TheVariants.{Kind, Project, Branch, Refname, Username, Email, Comment}

-- the number of a key: one more than its place among the keys, and 0 if there is no key
abbrev pub number_among : {A : Type 0} → (A → A → Bool) → List A → Option A → ℕ
number_among same keys None = 0
number_among same keys (Some key) = position_or_len (same key) keys + 1

-- the text of a field, if the event has the field
abbrev pub field_of : Field → Event → Option (List ℕ)
field_of Kind event = Some event.kind
field_of Project event = event.project
field_of Branch event = event.branch
field_of Refname event = event.refname
field_of Username event = event.username
field_of Email event = event.email
field_of Comment event = event.comment

-- the distinct texts of a field, in order of first appearance
abbrev pub texts_of : Field → List Event → List (List ℕ)
texts_of field events = each_once bytes_eq (filter_map (field_of field) events)

-- the number of each event's text in a field
abbrev pub column_of : Field → List Event → List ℕ
column_of field events = map (λ event. number_among bytes_eq (texts_of field events) (field_of field event)) events

-- the distinct texts of a field, paired with the number of each event's text
abbrev pub column_at : Field → List Event → List (List ℕ) × List ℕ
column_at field events = (texts_of field events, column_of field events)

-- a column for each field
abbrev pub columns_of : List Event → List (List (List ℕ) × List ℕ)
columns_of events = map (λ field. column_at field events) (Kind ∷ Project ∷ Branch ∷ Refname ∷ Username ∷ Email ∷ Comment ∷ [])

-- The two approvals have the same category and the same vote.
abbrev pub is_same_vote : List ℕ × ℤ → List ℕ × ℤ → Bool
is_same_vote vote other = bytes_eq vote.0 other.0 && int_eq vote.1 other.1

-- the distinct approvals of all events, in order of first appearance
abbrev pub approvals_of : List Event → List (List ℕ × ℤ)
approvals_of events = each_once is_same_vote (flat_map (λ event. event.approvals) events)

-- the number of slots: as many as the fullest event has approvals
abbrev pub slots_of : List Event → ℕ
slots_of events = fold (λ most event. max most (length event.approvals)) 0 events

-- one slot: the number of each event's approval at this place
abbrev pub slot_of : List (List ℕ × ℤ) → List Event → ℕ → List ℕ
slot_of votes events place = map (λ event. number_among is_same_vote votes (slice_get event.approvals place)) events

-- all slots, one after another
abbrev pub cells_of : List (List ℕ × ℤ) → List Event → List ℕ
cells_of votes events = flat_map (slot_of votes events) (range_with_len 0 (slots_of events))

-- the numbers of the events' approvals, slot after slot
abbrev pub approval_cells_of : List Event → List ℕ
approval_cells_of events = cells_of (approvals_of events) events

-- the mask of the events that tell that a ref was deleted
abbrev pub deletes_of : List Event → List ℕ
deletes_of events = map (λ event. mark_if (is_delete event)) events
