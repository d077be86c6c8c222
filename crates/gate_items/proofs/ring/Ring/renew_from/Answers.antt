use Rattle.std.proofs.Common.{◌≡◌, ◌∙◌, ◌+◌, ◌++◌, ap, drop, length, subst, sym, take}
use Rattle.std.specs.BTreeMap.{get}
use Rattle.std.proofs.lemmas.List.{drop-map, length-map}
use Rattle.gate_items.specs.KeyOrder.{key_cmp}
use Rattle.gate_items.specs.Ring.{item_of, items_of}
use Rattle.gate_items.specs.Inner.Ring.{IsRing, RingState, after_ring}
use Rattle.gate_items.specs.Machine.{renewed}
use Rattle.gate_items.proofs.RingSteps.{renewed_items, renewed_ring}
use Rattle.gate_items.proofs.ring.Ring.renew_from.Goals as goal

pub invariant_of-self : goal.invariant_of-self
invariant_of-self c =
    subst (λ n. IsRing n c.renew_from-self-inside.new.items.items (get key_cmp c.self.inside.by_key)) (sym c.renew_from-self-inside.ensures.next)
    (renewed_ring c.self.inside.next c.self.inside.items.items (get key_cmp c.self.inside.by_key) c.self.invariant c.args.from c.renew_from-self-inside.new.items.items c.renew_from-self-inside.ensures.items)

pub returns-clause-new : goal.returns-clause-new
returns-clause-new c =
    subst (λ (s : RingState). after_ring c.renew_from-self-inside.result (items_of c.renew_from-self-inside.new.items.items) ≡ after_ring (s.next + length (drop c.args.from s.items)) (take c.args.from s.items ++ renewed s.next (drop c.args.from s.items))) c.self.view_is
    (ap (λ n. after_ring n (items_of c.renew_from-self-inside.new.items.items)) (c.renew_from-self-inside.ensures.next ∙ ap (λ n. c.self.inside.next + n) (sym (ap length (drop-map item_of c.args.from c.self.inside.items.items) ∙ length-map (drop c.args.from c.self.inside.items.items) item_of)))
    ∙ ap (after_ring (c.self.inside.next + length (drop c.args.from (items_of c.self.inside.items.items)))) (renewed_items c.self.inside.next c.self.inside.items.items (get key_cmp c.self.inside.by_key) c.self.invariant c.args.from c.renew_from-self-inside.new.items.items c.renew_from-self-inside.ensures.items))
