use Rattle.gate_record.proofs.Found.{follows}
use Rattle.gate_record.proofs.places.next_of.Goals as goal

pub returns-clause-value : goal.returns-clause-value
returns-clause-value c values goes = follows c.args.items.now c.next.result c.next.new.self c.next.ensures.value values goes
