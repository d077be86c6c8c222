use Rattle.std.proofs.Common.{◌≡◌, cond, None, length}
use Rattle.std.specs.BTreeMap.{get}
use Rattle.gate_items.specs.KeyOrder.{key_cmp}
use Rattle.gate_items.specs.declared.key.Key.{Key}
use Rattle.gate_journal.specs.Live.{is_reported}
use Rattle.gate_journal.proofs.keys.take_reported.Given as goal

-- what is left to be taken out, of what is there, is what is to be taken out of all
abbrev pub invariant-loop-report : goal.invariant-loop-report
invariant-loop-report l = (other : Key) → cond (is_reported l.rest other) None (get key_cmp l.sets other) ≡ cond (is_reported l.fn.reports other) None (get key_cmp l.fn.sets other)

abbrev pub decreases-loop-report : goal.decreases-loop-report
decreases-loop-report l = length l.rest
