use Rattle.gate_record.proofs.Generations.{entries_have_generations}
use Rattle.gate_record.proofs.laws.entries_have_generations.Goals as goal

pub returns : goal.returns
returns c = entries_have_generations
