-- What is printed of a pattern that was not built.
use Rattle.std.specs.Prelude.{ℕ, List, codes}
use Rattle.gate_rule.specs.declared.pattern.PatternFault.{PatternFault}
use Rattle.gate_rule.specs.declared.pattern.PatternFault.TheVariants.{Memory, Refused}

abbrev pub fault_text : PatternFault → List ℕ
fault_text Memory = codes "memory"
fault_text Refused = codes "refused"
