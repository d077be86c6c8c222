use Rattle.gate_record.proofs.Generations.{records_have_generations}
use Rattle.gate_record.proofs.laws.records_have_generations.Goals as goal

pub returns : goal.returns
returns c = records_have_generations
