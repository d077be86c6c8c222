use Rattle.std.proofs.Common.{◌∙◌, ◌++◌, sym, ap}
use Rattle.gate_intern.specs.Columns.{slot_of}
use Rattle.gate_intern.proofs.Slots.{slots_more}
use Rattle.gate_intern.proofs.approvals.Approvals.cells.Goals as goal

pub loop-place-preserved : goal.loop-place-preserved
loop-place-preserved c =
    let slot = slot_of c.args.self.now c.args.events.now in
    c.in_ok-push_slot.ensures ∙ ap (λ cells. cells ++ slot c.loop-place.place) c.loop-place.invariant ∙ sym (slots_more slot c.loop-place.place)
