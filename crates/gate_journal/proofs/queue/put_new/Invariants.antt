use Rattle.std.proofs.Common.{◌≡◌, ◌-◌, ◌++◌}
use Rattle.std.specs.List.{range_with_len}
use Rattle.gate_journal.proofs.queue.put_new.Given as goal

-- what is there and the numbers that are left make the whole
abbrev pub invariant-loop-set : goal.invariant-loop-set
invariant-loop-set l = l.sets.items ++ range_with_len l.set (l.next - l.set) ≡ l.fn.sets.items ++ range_with_len l.fn.from (l.next - l.fn.from)

abbrev pub decreases-loop-set : goal.decreases-loop-set
decreases-loop-set l = l.next - l.set
