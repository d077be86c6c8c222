use Rattle.gate_source.proofs.Numbers.{accepted_are_numbered}
use Rattle.gate_source.proofs.laws.accepted_records_are_numbered.Goals as goal

pub returns : goal.returns
returns c = accepted_are_numbered c.records_have_generations.ensures
