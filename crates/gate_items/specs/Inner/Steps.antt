-- The steps of an action on ordered items, which private contracts and proofs cite, beside `Steps`.
use Rattle.std.specs.Prelude.{◌≡◌, ◌<◌, length, ◌^◌, ◌+◌, int_lt, ◌++◌, ℕ, ℤ, Bool, true, false, List, [], ◌∷◌, drop, map, nat_lt, take, if◌then◌else◌, Option, Some, None, Result, Ok, Err}
use Rattle.std.specs.List.{find}
use Rattle.std.specs.Ordering.{int_eq}
use Rattle.gate_items.specs.declared.action.Discard.{Discard}
use Rattle.gate_items.specs.declared.action.Discard.TheVariants.{Known, NoJob, Numbers, Older, Repeated}
use Rattle.gate_items.specs.declared.action.JobResult.{JobResult}
use Rattle.gate_items.specs.declared.key.Key.{Key}
use Rattle.gate_items.specs.declared.action.Outcome.{Outcome}
use Rattle.gate_items.specs.declared.action.Outcome.TheVariants.{Applied, Discarded}
use Rattle.gate_items.specs.declared.item.QueueItem.{QueueItem}
use Rattle.gate_items.specs.Machine.{Makes, Plan, Refuses, State, behind_it, is_first_failure, is_of, leaving, new_item, placing, report_of, sets_behind, staying, with_outcome, with_set}

-- the number, if it is one that a `u64` holds
abbrev pub fitting : ℕ → Option ℕ
fitting n = if nat_lt n (2 ^ 64) then Some n else None

-- the state after a plan, before complete items are reported
abbrev pub changed_to : State → List QueueItem → Option ℕ → State × Outcome
changed_to s items None = (s, Discarded Numbers)
changed_to s items (Some next) = (record { manager = s.manager; next = next; items = items; reported = s.reported }, Applied)

abbrev pub changed : State → Plan → State × Outcome
changed s (Refuses why) = (s, Discarded why)
changed s (Makes items sets) = changed_to s items (fitting (s.next + sets))

-- the state after complete items are reported and leave
abbrev pub settled : State → State
settled s = record {
  manager = s.manager;
  next = s.next;
  items = staying s.manager s.items;
  reported = s.reported ++ map report_of (leaving s.manager s.items);
}

-- the items without the one at a place; `sets_past` is how many new build sets the items behind it get
abbrev pub without : State → ℕ → List QueueItem
without s place = take place s.items ++ behind_it s.manager s.next (drop (place + 1) s.items)

abbrev pub sets_past : State → ℕ → ℕ
sets_past s place = sets_behind s.manager (drop (place + 1) s.items)

abbrev pub dequeued_at : State → ℕ → Plan
dequeued_at s place = Makes (without s place) (sets_past s place)

abbrev pub reset_at : State → ℕ → QueueItem → Plan
reset_at s place item = Makes
    (take place s.items ++ with_set s.next item ∷ behind_it s.manager (s.next + 1) (drop (place + 1) s.items))
    (sets_past s place + 1)

abbrev pub recorded_at : State → ℕ → JobResult → QueueItem → Bool → Plan
recorded_at s place result item true = Makes
    (take place s.items ++ with_outcome result.job result.success item ∷ behind_it s.manager s.next (drop (place + 1) s.items))
    (sets_past s place)
recorded_at s place result item false = Makes
    (take place s.items ++ with_outcome result.job result.success item ∷ drop (place + 1) s.items)
    0

abbrev pub ended_at : State → ℕ → JobResult → QueueItem → Option (List ℕ × Option Bool) → Plan
ended_at s place result item None = Refuses NoJob
ended_at s place result item (Some (name, Some success)) = Refuses Repeated
ended_at s place result item (Some (name, None)) = recorded_at s place result item (is_first_failure result.success item)

abbrev pub placed_last : State → Key → ℤ → List (List ℕ) → Plan
placed_last s key patchset jobs = Makes (s.items ++ new_item key patchset s.next jobs ∷ []) 1

abbrev pub replaced_at : State → ℕ → Key → ℤ → List (List ℕ) → Plan
replaced_at s place key patchset jobs = Makes
    (without s place ++ new_item key patchset (s.next + sets_past s place) jobs ∷ [])
    (sets_past s place + 1)

-- why a trigger of patch set `patchset` is discarded beside an item of patch set `standing`, if it is
abbrev pub why_not : ℤ → ℤ → Option Discard
why_not patchset standing =
    if int_eq patchset standing then Some Known
    else (if int_lt patchset standing then Some Older else None)

-- Where a trigger's item goes: it is discarded for this reason, it is put last, or it replaces the older item at this place.
abbrev pub Judges : State → Key → ℤ → List (List ℕ) → Result (Option ℕ) Discard → Type 0
Judges s key patchset jobs (Err why) = placing s key patchset jobs (find (is_of key) s.items) ≡ Refuses why
Judges s key patchset jobs (Ok None) = placing s key patchset jobs (find (is_of key) s.items) ≡ placed_last s key patchset jobs
Judges s key patchset jobs (Ok (Some place)) = (place < length s.items) × (placing s key patchset jobs (find (is_of key) s.items) ≡ replaced_at s place key patchset jobs)
