use Rattle.std.proofs.Common.{◌∙◌, sym, ap, length, map}
use Rattle.std.proofs.lemmas.List.{length-map}
use Rattle.gate_lanes.specs.Masks.{is_among, mark_if}
use Rattle.gate_match_rules.proofs.Masks.{are_marks, marks_are, words_of_map, written}
use Rattle.gate_match_rules.proofs.mask.Mask.of_ids.Goals as goal

pub invariant_of-result : goal.invariant_of-result
invariant_of-result c =
    let test = is_among c.args.ids.now in
    let column = c.args.column.now in
    are_marks _ (map test column)
    (written c.in_ok-words.words.len c.mark_any.new.out _ (ap length c.mark_any.ensures ∙ length-map column (λ word. mark_if (test word)) ∙ sym c.in_ok-words.ensures.len)
    ∙ c.mark_any.ensures ∙ words_of_map test column)

pub returns : goal.returns
returns c =
    let test = is_among c.args.ids.now in
    let column = c.args.column.now in
    marks_are _ (map test column)
    (written c.in_ok-words.words.len c.mark_any.new.out _ (ap length c.mark_any.ensures ∙ length-map column (λ word. mark_if (test word)) ∙ sym c.in_ok-words.ensures.len)
    ∙ c.mark_any.ensures ∙ words_of_map test column)
