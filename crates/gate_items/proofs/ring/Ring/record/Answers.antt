use Rattle.std.proofs.Common.{◌≡◌, ap, arith, get_or, length, set, subst}
use Rattle.std.specs.BTreeMap.{get}
use Rattle.std.proofs.lemmas.List.{length-map}
use Rattle.gate_items.specs.KeyOrder.{key_cmp}
use Rattle.gate_items.specs.Ring.{item_of, items_of}
use Rattle.gate_items.specs.Inner.Ring.{RingState, after_ring}
use Rattle.gate_items.specs.Machine.{with_outcome}
use Rattle.gate_items.proofs.RingSteps.{recorded_items, recorded_ring}
use Rattle.gate_items.proofs.ring.Ring.record.Goals as goal

pub invariant_of-self : goal.invariant_of-self
invariant_of-self c =
    recorded_ring c.self.inside.next c.self.inside.items.items (get key_cmp c.self.inside.by_key) c.self.invariant c.args.place c.args.ended.now.job c.args.ended.now.success c.record_outcome.new.items.items
    (omega (arith, length-map c.self.inside.items.items item_of, ap (λ (s : RingState). length s.items) c.self.view_is, c.requires)) c.record_outcome.ensures.items

pub returns-clause-new : goal.returns-clause-new
returns-clause-new c d =
    subst (λ (s : RingState). after_ring c.self.inside.next (items_of c.record_outcome.new.items.items) ≡ after_ring s.next (set s.items c.args.place (with_outcome c.args.ended.now.job c.args.ended.now.success (get_or s.items c.args.place d)))) c.self.view_is
    (ap (after_ring c.self.inside.next) (recorded_items c.self.inside.items.items c.args.place c.args.ended.now.job c.args.ended.now.success c.record_outcome.new.items.items
    (omega (arith, length-map c.self.inside.items.items item_of, ap (λ (s : RingState). length s.items) c.self.view_is, c.requires)) c.record_outcome.ensures.items d))
