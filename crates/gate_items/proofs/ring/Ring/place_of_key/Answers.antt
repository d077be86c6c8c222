use Rattle.std.proofs.Common.{◌≡◌, None, Some, arith, rules, subst}
use Rattle.std.specs.List.{position}
use Rattle.std.specs.BTreeMap.{get}
use Rattle.std.proofs.lemmas.List.Sorted.{answers_always}
use Rattle.gate_items.specs.KeyOrder.{key_cmp}
use Rattle.gate_items.specs.Inner.Ring.{RingState}
use Rattle.gate_items.specs.Machine.{is_of}
use Rattle.gate_items.specs.declared.ring.Numbered.{Numbered}
use Rattle.gate_items.proofs.RingSteps.{key_absent, key_found, key_nowhere}
use Rattle.gate_items.proofs.ring.Ring.place_of_key.Goals as goal

pub returns-in_default : goal.returns-in_default
returns-in_default c =
    subst (λ (s : RingState). None ≡ position (is_of c.args.key.now) s.items) c.self.view_is
    (key_absent c.self.inside.next c.self.inside.items.items (get key_cmp c.self.inside.by_key) c.self.invariant c.args.key.now (search rules))

pub returns-in-Ok : goal.returns-in-Ok
returns-in-Ok c =
    subst (λ (s : RingState). Some c.in-Ok.place ≡ position (is_of c.args.key.now) s.items) c.self.view_is
    (key_found c.self.inside.next c.self.inside.items.items (get key_cmp c.self.inside.by_key) c.self.invariant c.args.key.now c.in-Some.number (search rules) c.in-Ok.place (omega (arith, c.in-Ok.ensures.bound))
    (c.in-Ok.ensures.position (λ (e : Numbered). e.number) (answers_always _ _ _ (λ f a r g called. search rules))))

pub returns-in-Err : goal.returns-in-Err
returns-in-Err c =
    subst (λ (s : RingState). None ≡ position (is_of c.args.key.now) s.items) c.self.view_is
    (key_nowhere c.self.inside.next c.self.inside.items.items (get key_cmp c.self.inside.by_key) c.self.invariant c.args.key.now c.in-Some.number (search rules) c.in-Err.field-0
    (c.in-Err.ensures.position (λ (e : Numbered). e.number) (answers_always _ _ _ (λ f a r g called. search rules))))
