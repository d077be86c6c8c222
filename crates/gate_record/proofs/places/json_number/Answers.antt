use Rattle.std.proofs.Common.{◌∙◌, ap, option_and_then}
use Rattle.serde_json.specs.Find.{as_i64}
use Rattle.gate_record.proofs.Found.{number_at_place}
use Rattle.gate_record.proofs.places.json_number.Goals as goal

pub returns-in-Some : goal.returns-in-Some
returns-in-Some c value begins = c.integer.ensures ∙ ap (option_and_then as_i64) (number_at_place c.args.place.now value _ c.in-Some.ensures begins)

pub returns-in-None : goal.returns-in-None
returns-in-None c value begins = ap (option_and_then as_i64) (number_at_place c.args.place.now value _ c.in-None.ensures begins)
