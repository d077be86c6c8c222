use Rattle.std.proofs.Common.{◌∙◌, ◌==◌, ap, not}
use Rattle.gate_lanes.specs.Masks.{count_marked}
use Rattle.gate_match_rules.specs.Marks.{marks_any}
use Rattle.gate_match_rules.proofs.Masks.{none_counted}
use Rattle.gate_match_rules.proofs.mask.Mask.is_none.Goals as goal

pub returns : goal.returns
returns c =
    ap (λ n. n == 0) (c.count.ensures ∙ ap count_marked c.as_slice.ensures.value) ∙ none_counted c.self.inside.words.items ∙ ap (λ mask. not (marks_any mask)) c.self.view_is
