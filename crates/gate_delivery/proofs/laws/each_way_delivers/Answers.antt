use Rattle.gate_delivery.proofs.Delivering.{each_way_delivers}
use Rattle.gate_delivery.proofs.laws.each_way_delivers.Goals as goal

pub returns : goal.returns
returns c = each_way_delivers c.entries_have_generations.ensures
