use Rattle.std.proofs.Common.{◌∙◌, sym, ap, length, map}
use Rattle.std.proofs.lemmas.List.FromFn.{length-map-range_with_len}
use Rattle.std.specs.List.{range_with_len}
use Rattle.gate_lanes.specs.Masks.{is_in_row, mark_if}
use Rattle.gate_match_rules.proofs.Masks.{are_marks, marks_are, words_of_map, written}
use Rattle.gate_match_rules.proofs.mask.Mask.of_slots.Goals as goal

pub invariant_of-result : goal.invariant_of-result
invariant_of-result c =
    let test = is_in_row c.args.cells.now c.args.rows c.args.id in
    let rows = range_with_len 0 c.args.rows in
    are_marks _ (map test rows)
    (written c.in_ok-words.words.len c.mark_slots.new.out _ (ap length c.mark_slots.ensures ∙ length-map-range_with_len (λ row. mark_if (test row)) 0 c.args.rows ∙ sym (c.in_ok-words.ensures.len))
    ∙ c.mark_slots.ensures ∙ words_of_map test rows)

pub returns : goal.returns
returns c =
    let test = is_in_row c.args.cells.now c.args.rows c.args.id in
    let rows = range_with_len 0 c.args.rows in
    marks_are _ (map test rows)
    (written c.in_ok-words.words.len c.mark_slots.new.out _ (ap length c.mark_slots.ensures ∙ length-map-range_with_len (λ row. mark_if (test row)) 0 c.args.rows ∙ sym (c.in_ok-words.ensures.len))
    ∙ c.mark_slots.ensures ∙ words_of_map test rows)
