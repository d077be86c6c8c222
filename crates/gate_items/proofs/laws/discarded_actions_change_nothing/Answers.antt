use Rattle.gate_items.proofs.KeyParts.{discards_change_nothing}
use Rattle.gate_items.proofs.laws.discarded_actions_change_nothing.Goals as goal

pub returns : goal.returns
returns c = discards_change_nothing
