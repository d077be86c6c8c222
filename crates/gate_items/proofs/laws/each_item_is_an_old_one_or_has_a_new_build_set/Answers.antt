use Rattle.gate_items.proofs.Origins.{each_is_old_or_new}
use Rattle.gate_items.proofs.laws.each_item_is_an_old_one_or_has_a_new_build_set.Goals as goal

pub returns : goal.returns
returns c = each_is_old_or_new
