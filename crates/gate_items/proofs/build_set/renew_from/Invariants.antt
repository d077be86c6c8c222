use Rattle.std.proofs.Common.{◌≡◌, ◌+◌, ◌++◌, take, drop}
use Rattle.std.specs.VecDeque.{deque_len}
use Rattle.gate_items.specs.Inner.Ring.{renumbered}
use Rattle.gate_items.proofs.build_set.renew_from.Given as goal

abbrev pub invariant-loop-place : goal.invariant-loop-place
invariant-loop-place l = record {
  items : l.items.items ≡ (take l.from l.fn.items.items ++ renumbered l.next (drop l.from (take l.place l.fn.items.items))) ++ drop l.place l.fn.items.items;
  set : l.set + l.from ≡ l.next + l.place;
  len : deque_len l.items ≡ l.place-end;
}
