use Rattle.std.proofs.Common.{◌≡◌, ◌++◌, flat_map, string_bytes}
use Rattle.gate_core.specs.Shows.{item_line}
use Rattle.gate_core.proofs.showing.push_queue.Given as goal

-- what is written and the lines of the items to come make the whole
abbrev pub invariant-loop-item : goal.invariant-loop-item
invariant-loop-item l = string_bytes l.out ++ flat_map item_line l.item-iterator ≡ string_bytes l.fn.out ++ flat_map item_line l.items.items
