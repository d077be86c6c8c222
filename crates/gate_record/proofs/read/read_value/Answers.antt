use Rattle.std.proofs.Common.{◌∙◌, ap}
use Rattle.serde_json.specs.View.{view}
use Rattle.gate_record.specs.Reading.{reading_of_object}
use Rattle.gate_record.specs.declared.reading.Reading.TheVariants as reading
use Rattle.gate_record.proofs.Readings.{of_object}
use Rattle.gate_record.proofs.read.read_value.Goals as goal

pub returns-in_ok-read_event-in-Some : goal.returns-in_ok-read_event-in-Some
returns-in_ok-read_event-in-Some c =
    let value = view c.args.value.now in
    ap reading.Event c.in_ok-read_event-in-Some.ensures
    ∙ ap (reading_of_object value) c.in-Some.ensures
    ∙ of_object value c.if-not-is_object.ensures
