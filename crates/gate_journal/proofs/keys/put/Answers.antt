use Rattle.std.proofs.Common.{◌∙◌, Bool, Some, ap, cond, sym}
use Rattle.std.specs.BTreeMap.{get, is_at}
use Rattle.gate_items.specs.Inner.KeyOrder.{same_by_cmp}
use Rattle.gate_items.specs.KeyOrder.{key_cmp}
use Rattle.gate_items.specs.declared.key.Key.{Key}
use Rattle.gate_journal.proofs.keys.put.Goals as goal

pub returns : goal.returns
returns c other =
    c.in_ok-_older.ensures.updates.0 other
    ∙ ap (λ (key : Key). cond (is_at (key_cmp key) other) (Some c.args.set) (get key_cmp c.args.sets.now other)) c.in_ok-own.ensures
    ∙ ap (λ (b : Bool). cond b (Some c.args.set) (get key_cmp c.args.sets.now other)) (sym (same_by_cmp c.args.key.now other))
