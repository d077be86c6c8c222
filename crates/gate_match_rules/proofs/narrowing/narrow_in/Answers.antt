use Rattle.std.proofs.Common.{◌∙◌, ap, sym}
use Rattle.gate_match_rules.specs.Marks.{both}
use Rattle.gate_match_rules.proofs.Attributes.{none_asked, some_asked}
use Rattle.gate_match_rules.proofs.narrowing.narrow_in.Goals as goal

pub returns-then-is_empty-clause-leaves : goal.returns-then-is_empty-clause-leaves
returns-then-is_empty-clause-leaves c =
    none_asked c.args.field c.args.asked.now c.args.out.now c.args.search.now.columns.now (sym c.is_empty.ensures ∙ c.if-is_empty.true) c.requires.len

pub returns-clause-leaves : goal.returns-clause-leaves
returns-clause-leaves c =
    c.and.ensures.value ∙ ap (both c.args.out.now) (c.in_ok-met.ensures.met ∙ some_asked c.args.field c.args.asked.now c.args.search.now.columns.now (sym c.is_empty.ensures ∙ c.if-is_empty.false))
