use Rattle.gate_items.proofs.KeyParts.{each_key_goes}
use Rattle.gate_items.proofs.laws.each_action_is_for_one_key.Goals as goal

pub returns : goal.returns
returns c = each_key_goes
