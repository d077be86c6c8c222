-- The items of a ring, as contracts see them.
use Rattle.std.specs.Prelude.{List, map}
use Rattle.gate_items.specs.declared.item.QueueItem.{QueueItem}
use Rattle.gate_items.specs.declared.ring.Numbered.{Numbered}

-- the item, without its number; `items_of` has those of a list
abbrev pub item_of : Numbered → QueueItem
item_of entry = entry.item

abbrev pub items_of : List Numbered → List QueueItem
items_of = map item_of
