use Rattle.std.proofs.Common.{◌≡◌, ◌≤◌, ◌+◌, ◌++◌, length, map, vec_capacity}
use Rattle.gate_items.specs.Machine.{head_of, report_of, rest_of}
use Rattle.gate_items.proofs.report.report_complete.Given as goal

abbrev pub invariant-loop-item : goal.invariant-loop-item
invariant-loop-item l = record {
  items : rest_of l.ring.items ≡ rest_of l.fn.ring.items;
  next : l.ring.next ≡ l.fn.ring.next;
  reported : l.reported.items ++ map report_of (head_of l.ring.items) ≡ l.fn.reported.items ++ map report_of (head_of l.fn.ring.items);
  room : length l.reported.items + length l.ring.items ≤ vec_capacity l.reported;
}

abbrev pub decreases-loop-item : goal.decreases-loop-item
decreases-loop-item l = length l.ring.items
