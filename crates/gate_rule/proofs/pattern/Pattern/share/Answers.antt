use Rattle.std.proofs.Common.{sym, subst}
use Rattle.gate_rule.specs.declared.pattern.Pattern.{built-type}
use Rattle.gate_rule.proofs.pattern.Pattern.share.Goals as goal

pub invariant_of-result : goal.invariant_of-result
invariant_of-result c = record { built = subst built-type (sym c.in_ok-share.ensures) c.args.self.now.built }
