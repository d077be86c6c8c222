use Rattle.std.proofs.Common.{◌∙◌, ap, sym}
use Rattle.gate_rule.specs.Pattern.{finds_at_front, finds_within, tree_in, tree_of}
use Rattle.gate_match_rules.specs.Finding.{finds}
use Rattle.gate_match_rules.proofs.Truncated.{same_test}
use Rattle.gate_match_rules.proofs.kept.Kept.finds.Goals as goal

pub returns-in-Front-clause-found : goal.returns-in-Front-clause-found
returns-in-Front-clause-found c = λ pattern e.
    let kept = c.args.self.now in
    c.front.ensures.found
    ∙ ap (λ matcher. finds_at_front (tree_in matcher) c.args.text.now) c.deref_mut.ensures.value
    ∙ same_test (λ tree. finds_at_front tree c.args.text.now) (tree_in kept.matcher.value) (tree_of kept.pattern.now) kept.same
    ∙ (c.patterns_of_one_text_answer_alike.ensures kept.pattern.now pattern (sym e) c.args.text.now (λ k. (c.type_inv.text k).fits)).0
    ∙ sym (ap (λ reach. finds reach pattern c.args.text.now) c.in-Front.is)

pub returns-in-Anywhere-clause-found : goal.returns-in-Anywhere-clause-found
returns-in-Anywhere-clause-found c = λ pattern e.
    let kept = c.args.self.now in
    c.within.ensures.found
    ∙ ap (λ matcher. finds_within (tree_in matcher) c.args.text.now) c.deref_mut-in-Anywhere.ensures.value
    ∙ same_test (λ tree. finds_within tree c.args.text.now) (tree_in kept.matcher.value) (tree_of kept.pattern.now) kept.same
    ∙ (c.patterns_of_one_text_answer_alike.ensures kept.pattern.now pattern (sym e) c.args.text.now (λ k. (c.type_inv.text k).fits)).1
    ∙ sym (ap (λ reach. finds reach pattern c.args.text.now) c.in-Anywhere.is)
