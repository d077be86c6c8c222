use Rattle.std.proofs.Common.{subst}
use Rattle.regex.specs.Failures.{IsRightKind}
use Rattle.regex.specs.Patterns.{default_config}
use Rattle.gate_rule.proofs.Unread.{unread}
use Rattle.gate_rule.proofs.pattern.build.Goals as goal

pub returns-in-Err-Syntax-clause-not_built : goal.returns-in-Err-Syntax-clause-not_built
returns-in-Err-Syntax-clause-not_built c =
    let kind = subst (IsRightKind default_config c.args.text.now) c.in-Err-Syntax.field-0-is c.in-Err-Syntax.ensures.kind in
    unread c.args.text.now c.in-Err-Syntax.field-0-0.kind (c.in-Err-Syntax.ensures.by_grammar c.in-Err-Syntax.field-0-0 c.in-Err-Syntax.field-0-is) kind
