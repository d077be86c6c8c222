use Rattle.std.proofs.Common.{◌≡◌, None, Some, arith, rules, subst}
use Rattle.std.specs.List.{position}
use Rattle.std.specs.BTreeMap.{get}
use Rattle.std.proofs.lemmas.List.Sorted.{answers_always}
use Rattle.gate_items.specs.KeyOrder.{key_cmp}
use Rattle.gate_items.specs.Inner.Ring.{RingState, set_of}
use Rattle.gate_items.specs.Machine.{has_set}
use Rattle.gate_items.proofs.RingSteps.{set_found, set_nowhere}
use Rattle.gate_items.proofs.ring.Ring.place_of_set.Goals as goal

pub returns-in-Ok : goal.returns-in-Ok
returns-in-Ok c =
    subst (λ (s : RingState). Some c.in-Ok.place ≡ position (has_set c.args.set) s.items) c.self.view_is
    (set_found c.self.inside.next c.self.inside.items.items (get key_cmp c.self.inside.by_key) c.self.invariant c.args.set c.in-Ok.place (omega (arith, c.in-Ok.ensures.bound))
    (c.in-Ok.ensures.position set_of (answers_always _ _ _ (λ f a r g called. search rules))))

pub returns-in-Err : goal.returns-in-Err
returns-in-Err c =
    subst (λ (s : RingState). None ≡ position (has_set c.args.set) s.items) c.self.view_is
    (set_nowhere c.self.inside.next c.self.inside.items.items (get key_cmp c.self.inside.by_key) c.self.invariant c.args.set c.in-Err.field-0
    (c.in-Err.ensures.position set_of (answers_always _ _ _ (λ f a r g called. search rules))))
