use Rattle.gate_delivery.proofs.Arrivals.{wanted_arrive}
use Rattle.gate_delivery.proofs.laws.what_is_wanted_arrives.Goals as goal

pub returns : goal.returns
returns c = wanted_arrive c.entries_have_generations.ensures
