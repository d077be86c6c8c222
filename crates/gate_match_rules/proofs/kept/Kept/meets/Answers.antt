use Rattle.std.proofs.Common.{◌∙◌, ap, sym, ℕ, List}
use Rattle.std.specs.Prelude.{Bool}
use Rattle.gate_rule.specs.Entry.{turned}
use Rattle.gate_match_rules.specs.Finding.{finds}
use Rattle.gate_match_rules.proofs.kept.Kept.meets.Goals as goal

pub returns-clause-met : goal.returns-clause-met
returns-clause-met c = λ one e.
    c.answer.ensures
    ∙ ap (turned c.args.entry.now.negate) (c.finds.ensures.found one.pattern (ap (λ (texts : List ℕ × Bool). texts.0) e ∙ sym c.requires))
    ∙ ap (λ (texts : List ℕ × Bool). turned texts.1 (finds c.args.reach one.pattern c.args.text.now)) (sym e)
