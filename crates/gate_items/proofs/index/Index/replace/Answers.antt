use Rattle.std.proofs.Common.{◌≡◌, ◌∙◌, ap, cond, subst, sym, None}
use Prim.Native.Nat.{ℕ}
use Rattle.std.specs.BTreeMap.{BTreeMap, get, is_at}
use Rattle.std.specs.Map.{lookup, remove_entry}
use Rattle.std.specs.Ordering.{nat_cmp}
use Rattle.std.specs.Prelude.{IfSome}
use Rattle.gate_items.specs.Inner.Agreement.{Placed}
use Rattle.gate_items.specs.KeyOrder.{key_cmp}
use Rattle.gate_items.specs.declared.key.Key.{Key}
use Rattle.gate_items.proofs.index.Index.replace.Goals as goal

pub returns-in-None-clause-ok : goal.returns-in-None-clause-ok
returns-in-None-clause-ok c =
    subst (λ o. Placed o c.args.place c.args.key c.args.item c.args.self.now.items c.args.self.now.by_key c.args.self.now.by_set c.put.new.self.items c.put.new.self.by_key c.put.new.self.by_set) (sym c.in-None.is)
    (record { items = c.in_ok-put.ensures.items; keys = c.in_ok-put.ensures.keys; sets = c.in_ok-put.ensures.sets })

pub returns-in-Some-clause-ok : goal.returns-in-Some-clause-ok
returns-in-Some-clause-ok c =
    subst (λ o. Placed o c.args.place c.args.key c.args.item c.args.self.now.items c.args.self.now.by_key c.args.self.now.by_set c.drop_item.new.self.items c.drop_item.new.self.by_key c.drop_item.new.self.by_set) (sym c.in-Some.is)
    (record {
      items = c.drop_item.ensures.items ∙ ap (remove_entry (is_at (nat_cmp c.in-Some.older))) c.in_ok-put.ensures.items;
      keys = λ q. ap (λ (m : BTreeMap Key ℕ). get key_cmp m q) c.drop_item.ensures.keys ∙ c.in_ok-put.ensures.keys q;
      sets = λ gone is n.
          subst (λ o. IfSome o (λ item. (k : ℕ) → get nat_cmp c.drop_item.new.self.by_set k ≡ cond (is_at (nat_cmp item.set) k) None (get nat_cmp c.put.new.self.by_set k))) (ap (lookup (is_at (nat_cmp c.in-Some.older))) c.in_ok-put.ensures.items ∙ is) c.drop_item.ensures.sets n
          ∙ ap (cond (is_at (nat_cmp gone.set) n) None) (c.in_ok-put.ensures.sets n);
    })
