use Rattle.std.proofs.Common.{◌≡◌, take}
use Rattle.gate_match_rules.specs.Narrowing.{entries_of}
use Rattle.gate_match_rules.proofs.compiling.all_asked.Given as goal

abbrev pub invariant-loop-entry : goal.invariant-loop-entry
invariant-loop-entry l = entries_of l.asked.items ≡ take l.entry-index l.entries
