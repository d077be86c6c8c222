use Rattle.std.proofs.Common.{◌∙◌, Bool, None, ap, cond, sym}
use Rattle.std.specs.BTreeMap.{get}
use Rattle.gate_items.specs.Inner.KeyOrder.{same_by_cmp}
use Rattle.gate_items.specs.KeyOrder.{key_cmp}
use Rattle.gate_journal.proofs.keys.take.Goals as goal

pub returns : goal.returns
returns c other = c.remove-set.ensures.updates.0 other ∙ ap (λ (b : Bool). cond b None (get key_cmp c.args.sets.now other)) (sym (same_by_cmp c.args.key.now other))
