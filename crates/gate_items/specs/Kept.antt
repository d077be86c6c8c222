-- The items of a pipeline, in whichever of the two ways they are kept.
use Rattle.std.specs.Prelude.{List}
use Rattle.gate_items.specs.declared.item.QueueItem.{QueueItem}
use Rattle.gate_items.specs.declared.items.Kept.{Kept}
use Rattle.gate_items.specs.declared.items.Kept.TheVariants as kept
use Rattle.gate_items.specs.declared.queue_items.Rest.{Rest}
use Rattle.gate_items.specs.declared.queue_items.Rest.TheVariants as rest
use Rattle.std.specs.VecDeque.Iter.{deque_iter_rest}
use Rattle.gate_items.specs.Ring.{items_of}
use Rattle.gate_items.specs.Machine.{State}

abbrev pub state_of : Kept → State
state_of (kept.Ordered s) = s
state_of (kept.Indexed s) = s

-- the items that an iterator has still to give
abbrev pub rest_of : Rest → List QueueItem
rest_of (rest.Ordered items) = items_of (deque_iter_rest items)
rest_of (rest.Indexed items) = items
