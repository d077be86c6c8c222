-- Definitions about rings that private contracts and proofs cite, beside `Ring`.
use Rattle.std.specs.Prelude.{◌≡◌, ◌≤◌, ◌+◌, ℕ, List, [], ◌∷◌, Bool, true, map, Option, Some, None}
use Rattle.std.specs.BTreeMap.{is_at}
use Rattle.std.specs.List.{list_any}
use Rattle.std.specs.Ordering.{nat_cmp}
use Rattle.gate_items.specs.Inner.Agreement.{is_here}
use Rattle.gate_items.specs.Keys.{is_same}
use Rattle.gate_items.specs.Machine.{head_of, is_complete, rest_of, with_outcome, with_set}
use Rattle.gate_items.specs.declared.item.QueueItem.{QueueItem}
use Rattle.gate_items.specs.declared.key.Key.{Key}
use Rattle.gate_items.specs.declared.ring.Numbered.{Numbered}

-- A ring as contracts see it: the items, from first to last, and the number that the next build set gets.
pub record RingState : Type 0 where
  pub next : ℕ
  pub items : List QueueItem

abbrev pub after_ring : ℕ → List QueueItem → RingState
after_ring next items = record { next = next; items = items }

abbrev pub set_of : Numbered → ℕ
set_of entry = entry.item.set

abbrev pub tag_of : Numbered → ℕ × Key
tag_of entry = (entry.number, entry.item.key)

-- The numbers rise along the list; none is below `low`, and all are below `high`.
abbrev pub Rise : ℕ → ℕ → List ℕ → Type 0
Rise low high [] = low ≤ high
Rise low high (n ∷ ns) = (low ≤ n) × Rise (n + 1) high ns

abbrev pub is_number : ℕ → ℕ × Key → Bool
is_number n tag = is_at (nat_cmp n) tag.0

-- Each item is found by its key, and by no other key.
abbrev pub EachFound : (Key → Option ℕ) → List (ℕ × Key) → Type 0
EachFound by_key [] = Unit {0}
EachFound by_key (tag ∷ tags) = ((key : Key) → is_same tag.1 key ≡ is_here (by_key key) tag.0) × EachFound by_key tags

-- The numbers rise, each item is found by its key, and the index has only numbers of items.
pub record IsIndexed (next : ℕ) (tags : List (ℕ × Key)) (by_key : Key → Option ℕ) : Type 0 where
  pub rise : Rise 0 next (map (λ (t : ℕ × Key). t.0) tags)
  pub each : EachFound by_key tags
  pub live : (key : Key) (n : ℕ) → by_key key ≡ Some n → list_any (is_number n) tags ≡ true

-- The build sets rise along the list as well.
pub record IsRing (next : ℕ) (entries : List Numbered) (by_key : Key → Option ℕ) : Type 0 where
  pub sets : Rise 0 next (map set_of entries)
  pub index : IsIndexed next (map tag_of entries) by_key

abbrev pub numbered_set : ℕ → Numbered → Numbered
numbered_set set entry = record { number = entry.number; item = with_set set entry.item }

abbrev pub numbered_outcome : List ℕ → Bool → Numbered → Numbered
numbered_outcome name success entry = record { number = entry.number; item = with_outcome name success entry.item }

-- the items with new build sets, numbered in order from `next`; they keep their own numbers
abbrev pub renumbered : ℕ → List Numbered → List Numbered
renumbered next [] = []
renumbered next (entry ∷ entries) = numbered_set next entry ∷ renumbered (next + 1) entries

-- The first item is taken out if it is complete.
abbrev pub TakesComplete : List QueueItem → Option QueueItem → List QueueItem → Type 0
TakesComplete old None new = (head_of old ≡ []) × (rest_of old ≡ new)
TakesComplete old (Some item) new = (old ≡ item ∷ new) × (is_complete item ≡ true)
