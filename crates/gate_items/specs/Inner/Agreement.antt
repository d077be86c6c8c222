-- How the index of an independent pipeline's items agrees with the items.
use Rattle.std.specs.Prelude.{◌≡◌, ◌<◌, ◌≤◌, ◌+◌, ℕ, ℤ, cond, false, Bool, List, [], ◌∷◌, Option, Some, None, IsSome}
use Rattle.std.specs.BTreeMap.{BTreeMap, get, insert_entry, is_at}
use Rattle.std.specs.Map.{lookup, remove_entry}
use Rattle.std.specs.Ordering.{nat_cmp}
use Rattle.gate_items.specs.KeyOrder.{key_cmp}
use Rattle.gate_items.specs.Machine.{has_set, is_complete, is_of}
use Rattle.gate_items.specs.Inner.Steps.{why_not}
use Rattle.gate_items.specs.declared.action.Discard.{Discard}
use Rattle.gate_items.specs.declared.item.QueueItem.{QueueItem}
use Rattle.gate_items.specs.declared.key.Key.{Key}

-- P holds of each entry.
abbrev pub Each : (ℕ × QueueItem → Type 0) → List (ℕ × QueueItem) → Type 0
Each P [] = Unit {0}
Each P (entry ∷ entries) = P entry × Each P entries

-- The place is the given one.
abbrev pub is_here : Option ℕ → ℕ → Bool
is_here None place = false
is_here (Some meant) place = is_at (nat_cmp meant) place

-- An item is found by its key and by its build set, and by no other key or build set. Its place and its build set are numbers
-- that were given out, and it still waits for an outcome.
pub record Found (next : ℕ) (by_key : Key → Option ℕ) (by_set : ℕ → Option ℕ) (entry : ℕ × QueueItem) : Type 0 where
  pub keyed : (key : Key) → is_of key entry.1 ≡ is_here (by_key key) entry.0
  pub numbered : (set : ℕ) → has_set set entry.1 ≡ is_here (by_set set) entry.0
  pub low : entry.0 < next
  pub handed : entry.1.set < next
  pub waits : is_complete entry.1 ≡ false

-- The places rise along the list, and none is below `low`.
abbrev pub Rises : ℕ → List (ℕ × QueueItem) → Type 0
Rises low [] = Unit {0}
Rises low (entry ∷ entries) = (low ≤ entry.0) × Rises (entry.0 + 1) entries

-- Each item is found, only items are found, and the items stand in the order of their places.
pub record Agrees (next : ℕ) (entries : List (ℕ × QueueItem)) (by_key : Key → Option ℕ) (by_set : ℕ → Option ℕ) : Type 0 where
  pub each : Each (Found next by_key by_set) entries
  pub rises : Rises 0 entries
  pub keys : (key : Key) (place : ℕ) → by_key key ≡ Some place → IsSome (lookup (is_at (nat_cmp place)) entries)
  pub sets : (set place : ℕ) → by_set set ≡ Some place → IsSome (lookup (is_at (nat_cmp place)) entries)

-- the item at a place, if there is a place
abbrev pub standing : Option ℕ → (ℕ → Option QueueItem) → Option QueueItem
standing None items = None
standing (Some place) items = items place

-- why a trigger of this patch set is discarded beside this item, if it is
abbrev pub cause : ℤ → Option QueueItem → Option Discard
cause patchset None = None
cause patchset (Some item) = why_not patchset item.patchset

-- The new maps are the old ones with this item at this place, where its key and its build set find it.
pub record Put (place : ℕ) (key : Key) (item : QueueItem) (old : BTreeMap ℕ QueueItem) (old_keys : BTreeMap Key ℕ) (old_sets : BTreeMap ℕ ℕ) (new : BTreeMap ℕ QueueItem) (new_keys : BTreeMap Key ℕ) (new_sets : BTreeMap ℕ ℕ) : Type 0 where
  pub items : new.entries ≡ insert_entry nat_cmp old.entries place item
  pub keys : (q : Key) → get key_cmp new_keys q ≡ cond (is_at (key_cmp key) q) (Some place) (get key_cmp old_keys q)
  pub sets : (n : ℕ) → get nat_cmp new_sets n ≡ cond (is_at (nat_cmp item.set) n) (Some place) (get nat_cmp old_sets n)

-- The same, and the older item is gone, with its build set.
pub record Swapped (older : ℕ) (place : ℕ) (key : Key) (item : QueueItem) (old : BTreeMap ℕ QueueItem) (old_keys : BTreeMap Key ℕ) (old_sets : BTreeMap ℕ ℕ) (new : BTreeMap ℕ QueueItem) (new_keys : BTreeMap Key ℕ) (new_sets : BTreeMap ℕ ℕ) : Type 0 where
  pub items : new.entries ≡ remove_entry (is_at (nat_cmp older)) (insert_entry nat_cmp old.entries place item)
  pub keys : (q : Key) → get key_cmp new_keys q ≡ cond (is_at (key_cmp key) q) (Some place) (get key_cmp old_keys q)
  pub sets : (gone : QueueItem) → lookup (is_at (nat_cmp older)) (insert_entry nat_cmp old.entries place item) ≡ Some gone → (n : ℕ) → get nat_cmp new_sets n ≡ cond (is_at (nat_cmp gone.set) n) None (cond (is_at (nat_cmp item.set) n) (Some place) (get nat_cmp old_sets n))

abbrev pub Placed : Option ℕ → ℕ → Key → QueueItem → BTreeMap ℕ QueueItem → BTreeMap Key ℕ → BTreeMap ℕ ℕ → BTreeMap ℕ QueueItem → BTreeMap Key ℕ → BTreeMap ℕ ℕ → Type 0
Placed None place key item = Put place key item
Placed (Some older) place key item = Swapped older place key item
