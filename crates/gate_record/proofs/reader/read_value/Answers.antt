use Rattle.std.proofs.Common.{◌∙◌, ap, codes, sym}
use Rattle.serde_json.specs.Find.{as_str, get}
use Rattle.gate_record.specs.Reading.{reading_of_object}
use Rattle.gate_record.specs.declared.reading.Reading.TheVariants as reading
use Rattle.gate_record.proofs.Found.{one_key}
use Rattle.gate_record.proofs.Readings.{no_object, of_object}
use Rattle.gate_record.proofs.reader.read_value.Goals as goal

pub returns-then-not-is_object : goal.returns-then-not-is_object
returns-then-not-is_object c value begins = no_object value (c.if-not-is_object.ensures value begins)

pub returns-in-None : goal.returns-in-None
returns-in-None c value begins =
    ap (reading_of_object value) (c.in-None.ensures _ (c.three_members-kind.ensures.first value begins) ∙ sym (one_key as_str (get (codes "type") value)))
    ∙ of_object value (c.if-not-is_object.ensures value begins)

pub returns-in_ok-event-in-Some : goal.returns-in_ok-event-in-Some
returns-in_ok-event-in-Some c value begins =
    let seen = c.three_members-kind.ensures in
    ap reading.Event (c.in_ok-event-in-Some.ensures value begins (seen.second value begins) (seen.third value begins))
    ∙ ap (reading_of_object value) (c.in-Some.ensures _ (seen.first value begins) ∙ sym (one_key as_str (get (codes "type") value)))
    ∙ of_object value (c.if-not-is_object.ensures value begins)
