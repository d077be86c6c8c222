use Rattle.std.proofs.Common.{◌∙◌}
use Rattle.gate_items.specs.Inner.KeyOrder.{same_by_cmp}
use Rattle.gate_items.proofs.key_order.KeyPartialEq.eq.Goals as goal

pub returns : goal.returns
returns c = c.is_same.ensures ∙ same_by_cmp c.args.self.now c.args.other.now
