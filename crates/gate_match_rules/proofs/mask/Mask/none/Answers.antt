use Rattle.std.proofs.Common.{◌∙◌, false, replicate, rules}
use Rattle.gate_match_rules.proofs.Masks.{are_marks, marks_are, words_of_none}
use Rattle.gate_match_rules.proofs.mask.Mask.none.Goals as goal

pub invariant_of-result : goal.invariant_of-result
invariant_of-result c = are_marks _ (replicate c.args.rows false) (c.in_ok-vec.ensures.items_if_clones_equal (search rules) ∙ words_of_none c.args.rows)

pub returns : goal.returns
returns c = marks_are _ (replicate c.args.rows false) (c.in_ok-vec.ensures.items_if_clones_equal (search rules) ∙ words_of_none c.args.rows)
