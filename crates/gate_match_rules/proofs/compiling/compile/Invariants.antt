use Rattle.std.proofs.Common.{◌≡◌, take}
use Rattle.gate_match_rules.specs.Compiling.{rules_in}
use Rattle.gate_match_rules.proofs.compiling.compile.Given as goal

abbrev pub invariant-loop-rule : goal.invariant-loop-rule
invariant-loop-rule l = rules_in l.compiled.items ≡ take l.rule-index l.rules
