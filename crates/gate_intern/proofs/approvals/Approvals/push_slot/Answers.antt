use Rattle.std.proofs.Common.{◌∙◌, ap}
use Rattle.std.specs.Prelude.{slice_get}
use Rattle.std.specs.Option.{option_copied}
use Rattle.gate_record.specs.declared.event.Event.{Event}
use Rattle.gate_intern.proofs.Slots.{slot_more}
use Rattle.gate_intern.proofs.approvals.Approvals.push_slot.Goals as goal

pub loop-event-preserved : goal.loop-event-preserved
loop-event-preserved c =
    slot_more c.args.self.now c.args.events.now c.args.place c.loop-event.event-index c.event-item.result c.args.cells.now.items c.loop-event.cells.items c.push.new.self.items c.in_ok-number.number
    (option_copied c.get-in-loop-event.result) c.loop-event-test.true c.event-item.is c.loop-event.invariant
    (c.get-in-loop-event.ensures ∙ ap (λ (event : Event). slice_get event.approvals c.args.place) c.get.ensures)
    c.in_ok-number.ensures c.in_ok-push.ensures.items
