use Rattle.std.proofs.Common.{◌≡◌, drop}
use Rattle.gate_journal.proofs.queue.take_reported.Given as goal

-- so many are out
abbrev pub invariant-loop-report : goal.invariant-loop-report
invariant-loop-report l = l.sets.items ≡ drop l._report l.fn.sets.items
