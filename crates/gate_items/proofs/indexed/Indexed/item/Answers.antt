use Rattle.std.proofs.Common.{◌≡◌, ◌∙◌, None, Bor, subst, sym}
use Rattle.std.specs.BTreeMap.{get}
use Rattle.std.specs.List.{find}
use Rattle.std.specs.Ordering.{nat_cmp}
use Rattle.std.specs.Prelude.{option_map}
use Rattle.gate_items.specs.KeyOrder.{key_cmp}
use Rattle.gate_items.specs.Machine.{State, has_set}
use Rattle.gate_items.specs.declared.item.QueueItem.{QueueItem}
use Rattle.gate_items.proofs.Acts.{meant_set, no_set}
use Rattle.gate_items.proofs.Shown.{means_item}
use Rattle.gate_items.proofs.indexed.Indexed.item.Goals as goal

pub returns-in-None : goal.returns-in-None
returns-in-None c =
    subst (λ (s : State). None ≡ find (has_set c.args.set) s.items) c.self.view_is
    (sym (no_set c.self.inside.next c.self.inside.index.items.entries (get key_cmp c.self.inside.index.by_key) (get nat_cmp c.self.inside.index.by_set) c.self.invariant.0 c.args.set (sym c.in-None.ensures)))

pub returns-in-Some : goal.returns-in-Some
returns-in-Some c =
    subst (λ (s : State). option_map (λ (item : Bor QueueItem). item.now) c.get.result ≡ find (has_set c.args.set) s.items) c.self.view_is
    (c.get.ensures.value
    ∙ sym (means_item (has_set c.args.set) c.in-Some.place c.self.inside.index.items.entries
    (meant_set c.self.inside.next c.self.inside.index.items.entries (get key_cmp c.self.inside.index.by_key) (get nat_cmp c.self.inside.index.by_set) c.self.invariant.0 c.args.set c.in-Some.place (sym c.in-Some.ensures))))
