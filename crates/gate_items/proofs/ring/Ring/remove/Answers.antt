use Rattle.std.proofs.Common.{◌≡◌, ◌∙◌, ◌+◌, ◌++◌, Some, ap, arith, drop, refl, slice_get, subst, sym, take}
use Rattle.std.specs.BTreeMap.{get}
use Rattle.gate_items.specs.KeyOrder.{key_cmp}
use Rattle.gate_items.specs.Ring.{items_of}
use Rattle.gate_items.specs.Inner.Ring.{IsRing, RingState, after_ring}
use Rattle.gate_items.proofs.RingSteps.{at_it, item_is, removed_items, removed_ring}
use Rattle.gate_items.proofs.ring.Ring.remove.Goals as goal

pub invariant_of-self-2 : goal.invariant_of-self-2
invariant_of-self-2 c =
    subst (λ es. IsRing c.self.inside.next es (get key_cmp c.remove-number.new.self)) (sym c.in_ok-entry.ensures.items)
    (removed_ring c.self.inside.next c.self.inside.items.items (get key_cmp c.self.inside.by_key) c.self.invariant c.args.place c.in_ok-entry.entry
    (at_it c.self.inside.items.items c.args.place c.in_ok-entry.entry (omega (arith, c.in_ok-entry.ensures.variant.0 refl)) c.in_ok-entry.ensures.value)
    (get key_cmp c.remove-number.new.self) c.remove-number.ensures.updates.0)

pub returns-clause-item : goal.returns-clause-item
returns-clause-item c =
    subst (λ (s : RingState). Some c.in_ok-entry.entry.item ≡ slice_get s.items c.args.place) c.self.view_is
    (sym (item_is c.self.inside.items.items c.args.place c.in_ok-entry.entry
    (at_it c.self.inside.items.items c.args.place c.in_ok-entry.entry (omega (arith, c.in_ok-entry.ensures.variant.0 refl)) c.in_ok-entry.ensures.value)))

pub returns-clause-new : goal.returns-clause-new
returns-clause-new c =
    subst (λ (s : RingState). after_ring c.self.inside.next (items_of c.remove.new.self.items) ≡ after_ring s.next (take c.args.place s.items ++ drop (c.args.place + 1) s.items)) c.self.view_is
    (ap (after_ring c.self.inside.next) (ap items_of c.in_ok-entry.ensures.items ∙ removed_items c.self.inside.items.items c.args.place))
