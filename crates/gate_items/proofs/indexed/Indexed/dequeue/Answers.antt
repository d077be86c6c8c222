use Rattle.std.proofs.Common.{◌≡◌, ◌∙◌, arith, subst, sym}
use Rattle.std.specs.BTreeMap.{get, values}
use Rattle.std.specs.List.{find}
use Rattle.std.specs.Ordering.{nat_cmp}
use Rattle.gate_record.specs.declared.ids.ManagerKind.TheVariants.{Independent}
use Rattle.gate_items.specs.Inner.Agreement.{Agrees}
use Rattle.gate_items.specs.KeyOrder.{key_cmp}
use Rattle.gate_items.specs.Machine.{State, after_plan, dequeued, is_of}
use Rattle.gate_items.specs.declared.action.Discard.TheVariants.{NoItem}
use Rattle.gate_items.specs.declared.action.Outcome.TheVariants.{Applied, Discarded}
use Rattle.gate_items.proofs.Acts.{dequeues, dequeues_none, seen_key, wait}
use Rattle.gate_items.proofs.Agreement.{removed}
use Rattle.gate_items.proofs.Entries.{some_none}
use Rattle.gate_items.proofs.indexed.Indexed.dequeue.Goals as goal

pub returns-in_default : goal.returns-in_default
returns-in_default c =
    subst (λ (s : State). (s, Discarded NoItem) ≡ after_plan s (dequeued s c.args.key.now (find (is_of c.args.key.now) s.items))) c.self.view_is
    (dequeues_none c.self.inside.next c.self.inside.index.items.entries (get key_cmp c.self.inside.index.by_key) (get nat_cmp c.self.inside.index.by_set) c.self.invariant.0 c.self.inside.reported.items (omega arith) c.args.key.now (sym c.place_of_key.ensures ∙ c.in_default.is))

pub invariant_of-self : goal.invariant_of-self
invariant_of-self c =
    absurd (some_none (sym (seen_key c.self.inside.next c.self.inside.index.items.entries (get key_cmp c.self.inside.index.by_key) (get nat_cmp c.self.inside.index.by_set) c.self.invariant.0 c.args.key.now c.in-Some.place (sym c.place_of_key.ensures ∙ c.in-Some.is)).is ∙ sym c.take_out.ensures.value ∙ c.in_default-take_out.is))

pub returns-in_default-take_out : goal.returns-in_default-take_out
returns-in_default-take_out c =
    absurd (some_none (sym (seen_key c.self.inside.next c.self.inside.index.items.entries (get key_cmp c.self.inside.index.by_key) (get nat_cmp c.self.inside.index.by_set) c.self.invariant.0 c.args.key.now c.in-Some.place (sym c.place_of_key.ensures ∙ c.in-Some.is)).is ∙ sym c.take_out.ensures.value ∙ c.in_default-take_out.is))

pub invariant_of-self-2 : goal.invariant_of-self-2
invariant_of-self-2 c = (
  removed c.self.inside.next c.self.inside.index.items.entries (get key_cmp c.self.inside.index.by_key) (get nat_cmp c.self.inside.index.by_set) c.self.invariant.0 c.in-Some.place c.in-Some-take_out._item (sym c.take_out.ensures.value ∙ c.in-Some-take_out.is) c.take_out.new.self.items.entries (get key_cmp c.take_out.new.self.by_key) (get nat_cmp c.take_out.new.self.by_set) c.take_out.ensures.items c.in-Some-take_out.ensures.keys c.in-Some-take_out.ensures.sets,
  omega (arith, c.self.invariant.1, c.in-Some-take_out.ensures.len),
)

pub returns : goal.returns
returns c =
    let left : Agrees c.self.inside.next c.take_out.new.self.items.entries (get key_cmp c.take_out.new.self.by_key) (get nat_cmp c.take_out.new.self.by_set) = (invariant_of-self-2 c).0 in
    subst (λ (s : State). (record { manager = Independent; next = c.self.inside.next; items = values c.take_out.new.self.items; reported = c.self.inside.reported.items }, Applied) ≡ after_plan s (dequeued s c.args.key.now (find (is_of c.args.key.now) s.items))) c.self.view_is
    (dequeues c.self.inside.next c.self.inside.index.items.entries (get key_cmp c.self.inside.index.by_key) (get nat_cmp c.self.inside.index.by_set) c.self.invariant.0 c.self.inside.reported.items (omega arith) c.args.key.now c.in-Some.place c.in-Some-take_out._item c.take_out.new.self.items.entries (sym c.place_of_key.ensures ∙ c.in-Some.is) (sym c.take_out.ensures.value ∙ c.in-Some-take_out.is) c.take_out.ensures.items
    (wait c.self.inside.next c.take_out.new.self.items.entries (get key_cmp c.take_out.new.self.by_key) (get nat_cmp c.take_out.new.self.by_set) left))
