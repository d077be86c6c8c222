use Rattle.gate_record.proofs.Found.{finds}
use Rattle.gate_record.proofs.places.member.Goals as goal

pub returns : goal.returns
returns c value begins = finds c.args.key.now c.args.outer.now value c.get.result c.get.ensures begins
