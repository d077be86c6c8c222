use Rattle.std.proofs.Common.{◌∙◌}
use Rattle.gate_record.proofs.Found.{no_text_number, text_at_place, text_number}
use Rattle.gate_record.proofs.places.number.Goals as goal

pub returns-in-Some : goal.returns-in-Some
returns-in-Some c value begins = c.number_of_text.ensures ∙ text_number value _ (text_at_place c.args.place.now value _ c.in-Some.ensures begins)

pub returns-in-None : goal.returns-in-None
returns-in-None c value begins = c.json_number.ensures value begins ∙ no_text_number value (text_at_place c.args.place.now value _ c.in-None.ensures begins)
