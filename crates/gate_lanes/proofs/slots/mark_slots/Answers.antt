use Rattle.std.proofs.Common.{◌≡◌, ◌∙◌, ◌+◌, ◌-◌, ◌*◌, ap, arith, length, length-drop, length-take-le, take, drop, replicate}
use Rattle.std.proofs.lemmas.List.FromFn.{length-range_with_len}
use Rattle.std.proofs.lemmas.Simd.{splat_is_map}
use Rattle.std.specs.List.{range_with_len}
use Rattle.std.specs.Simd.Lanes.{zip2}
use Rattle.gate_lanes.proofs.Rows.{cell_of_slot, one_slot_more, slot_is_inside}
use Rattle.gate_lanes.specs.Inner.Masks.{marked_too}
use Rattle.gate_lanes.proofs.slots.mark_slots.Goals as goal

pub loop-slot-init : goal.loop-slot-init
loop-slot-init c =
    c.fill.ensures.after (λ y h. h) ∙ ap (λ n. replicate n 0) c.requires.len
    ∙ splat_is_map (range_with_len 0 c.args.rows) c.args.rows 0 (length-range_with_len 0 c.args.rows)

pub loop-slot-preserved : goal.loop-slot-preserved
loop-slot-preserved c =
    let cells = c.args.cells.now in
    let rows = c.args.rows in
    let slot = c.loop-slot.slot in
    let start = slot * rows in
    let cut = take (start + rows - start) (drop start cells) in
    let same : start + rows - start ≡ rows = omega arith in
    let long : length cut ≡ rows = length-take-le (start + rows - start) (drop start cells)
    (omega (arith, length-drop start cells, slot_is_inside (length cells) rows slot c.loop-slot-test.true)) ∙ same in
    c.join_all.ensures ∙ ap (λ out. zip2 (marked_too c.args.id) out cut) c.loop-slot.invariant
    ∙ one_slot_more cells cut rows c.args.id slot long (λ row h. cell_of_slot cells start (start + rows - start) rows row same h)
