use Rattle.gate_record.proofs.Found.{text_at_place}
use Rattle.gate_record.proofs.places.text.Goals as goal

pub returns : goal.returns
returns c value begins = text_at_place c.args.place.now value _ c.as_str.ensures begins
