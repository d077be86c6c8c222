use Rattle.gate_core.proofs.InForce.{each_has_its_generation}
use Rattle.gate_core.proofs.laws.each_record_has_its_generation.Goals as goal

pub returns : goal.returns
returns c = each_has_its_generation
