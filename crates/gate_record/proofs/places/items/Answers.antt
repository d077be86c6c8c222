use Rattle.gate_record.proofs.Found.{lists}
use Rattle.gate_record.proofs.places.items.Goals as goal

pub returns : goal.returns
returns c value begins = lists c.args.place.now value c.items.result c.items.ensures begins
