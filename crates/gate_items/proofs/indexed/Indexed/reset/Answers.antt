use Rattle.std.proofs.Common.{◌≡◌, ◌∙◌, ◌+◌, ap, arith, length, subst, sym, Some}
use Rattle.std.specs.BTreeMap.{BTreeMap, get}
use Rattle.std.specs.List.{find}
use Rattle.std.specs.Ordering.{nat_cmp}
use Rattle.gate_items.specs.Inner.Agreement.{Agrees}
use Rattle.gate_items.specs.KeyOrder.{key_cmp}
use Rattle.gate_items.specs.declared.item.QueueItem.{QueueItem}
use Rattle.gate_items.specs.declared.key.Key.{Key}
use Rattle.gate_items.proofs.Entries.{Sight, at_place}
use Rattle.std.specs.Map.{lookup}
use Prim.Native.Nat.{ℕ}
use Rattle.std.specs.BTreeMap.{values}
use Rattle.gate_record.specs.declared.ids.ManagerKind.TheVariants.{Independent}
use Rattle.gate_items.specs.Machine.{State, after_plan, is_of, reset}
use Rattle.gate_items.specs.declared.action.Discard.TheVariants.{NoItem, Numbers}
use Rattle.gate_items.specs.declared.action.Outcome.TheVariants.{Applied, Discarded}
use Rattle.gate_items.proofs.Acts.{on_err, reset_applies, resets, resets_full, resets_none, seen_key, wait}
use Rattle.gate_items.proofs.Agreement.{renumbered, same_answers}
use Rattle.std.proofs.lemmas.Map.{length-set_value}
use Rattle.std.specs.BTreeMap.{is_at}
use Rattle.std.specs.Map.{set_value}
use Rattle.gate_items.specs.Machine.{with_set}
use Rattle.gate_items.proofs.indexed.Indexed.reset.Goals as goal

pub returns-in_default-clause-does : goal.returns-in_default-clause-does
returns-in_default-clause-does c =
    subst (λ (s : State). (s, Discarded NoItem) ≡ after_plan s (reset s c.args.key.now (find (is_of c.args.key.now) s.items))) c.self.view_is
    (resets_none c.self.inside.next c.self.inside.index.items.entries (get key_cmp c.self.inside.index.by_key) (get nat_cmp c.self.inside.index.by_set) c.self.invariant.0 c.self.inside.reported.items (omega arith) c.args.key.now (sym c.place_of_key.ensures ∙ c.in_default.is))

pub returns-in_default-checked_add-clause-does : goal.returns-in_default-checked_add-clause-does
returns-in_default-checked_add-clause-does c =
    let e : get key_cmp c.self.inside.index.by_key c.args.key.now ≡ Some c.in-Some.place = sym c.place_of_key.ensures ∙ c.in-Some.is in
    let seen : Sight (lookup (at_place c.in-Some.place) c.self.inside.index.items.entries) = seen_key c.self.inside.next c.self.inside.index.items.entries (get key_cmp c.self.inside.index.by_key) (get nat_cmp c.self.inside.index.by_set) c.self.invariant.0 c.args.key.now c.in-Some.place e in
    subst (λ (s : State). (s, Discarded Numbers) ≡ after_plan s (reset s c.args.key.now (find (is_of c.args.key.now) s.items))) c.self.view_is
    (resets_full c.self.inside.next c.self.inside.index.items.entries (get key_cmp c.self.inside.index.by_key) (get nat_cmp c.self.inside.index.by_set) c.self.invariant.0 c.self.inside.reported.items (omega arith) c.args.key.now c.in-Some.place seen.item e seen.is c.in_default-checked_add.ensures)

pub invariant_of-self : goal.invariant_of-self
invariant_of-self c =
    let same : c.renumber.new.self.items.entries ≡ c.self.inside.index.items.entries = ap (λ (m : BTreeMap ℕ QueueItem). m.entries) c.in_err-renumber.ensures.same_items in (
      same_answers c.self.inside.next c.self.inside.index.items.entries (get key_cmp c.self.inside.index.by_key) (get nat_cmp c.self.inside.index.by_set) c.self.invariant.0 c.renumber.new.self.items.entries (get key_cmp c.renumber.new.self.by_key) (get nat_cmp c.renumber.new.self.by_set) same (λ q. ap (λ (m : BTreeMap Key ℕ). get key_cmp m q) c.renumber.ensures.keys) c.in_err-renumber.ensures.same_sets,
      omega (arith, c.self.invariant.1, ap length same),
    )

pub returns-in_err-renumber-clause-memory : goal.returns-in_err-renumber-clause-memory
returns-in_err-renumber-clause-memory c =
    let e : get key_cmp c.self.inside.index.by_key c.args.key.now ≡ Some c.in-Some.place = sym c.place_of_key.ensures ∙ c.in-Some.is in
    let seen : Sight (lookup (at_place c.in-Some.place) c.self.inside.index.items.entries) = seen_key c.self.inside.next c.self.inside.index.items.entries (get key_cmp c.self.inside.index.by_key) (get nat_cmp c.self.inside.index.by_set) c.self.invariant.0 c.args.key.now c.in-Some.place e in
    on_err _ _ (subst (λ (s : State). (after_plan s (reset s c.args.key.now (find (is_of c.args.key.now) s.items))).1 ≡ Applied) c.self.view_is
    (reset_applies c.self.inside.next c.self.inside.index.items.entries (get key_cmp c.self.inside.index.by_key) (get nat_cmp c.self.inside.index.by_set) c.self.invariant.0 c.self.inside.reported.items (omega arith) c.args.key.now c.in-Some.place seen.item e seen.is c.in-Some-checked_add.ensures.0))

pub invariant_of-self-2 : goal.invariant_of-self-2
invariant_of-self-2 c =
    let e : get key_cmp c.self.inside.index.by_key c.args.key.now ≡ Some c.in-Some.place = sym c.place_of_key.ensures ∙ c.in-Some.is in
    let seen : Sight (lookup (at_place c.in-Some.place) c.self.inside.index.items.entries) = seen_key c.self.inside.next c.self.inside.index.items.entries (get key_cmp c.self.inside.index.by_key) (get nat_cmp c.self.inside.index.by_set) c.self.invariant.0 c.args.key.now c.in-Some.place e in
    let wrote : c.renumber.new.self.items.entries ≡ set_value (is_at (nat_cmp c.in-Some.place)) c.self.inside.index.items.entries (with_set c.self.inside.next seen.item) = c.in_ok-renumber.ensures.items seen.item seen.is in (
      subst (λ n. Agrees n c.renumber.new.self.items.entries (get key_cmp c.renumber.new.self.by_key) (get nat_cmp c.renumber.new.self.by_set)) (sym c.in-Some-checked_add.ensures.1)
          (renumbered c.self.inside.next c.self.inside.index.items.entries (get key_cmp c.self.inside.index.by_key) (get nat_cmp c.self.inside.index.by_set) c.self.invariant.0 c.in-Some.place seen.item seen.is c.renumber.new.self.items.entries (get key_cmp c.renumber.new.self.by_key) (get nat_cmp c.renumber.new.self.by_set) wrote (λ q. ap (λ (m : BTreeMap Key ℕ). get key_cmp m q) c.renumber.ensures.keys) (c.in_ok-renumber.ensures.sets seen.item seen.is)),
      omega (arith, c.self.invariant.1, ap length wrote, length-set_value (is_at (nat_cmp c.in-Some.place)) c.self.inside.index.items.entries (with_set c.self.inside.next seen.item)),
    )

pub returns-clause-does : goal.returns-clause-does
returns-clause-does c =
    let e : get key_cmp c.self.inside.index.by_key c.args.key.now ≡ Some c.in-Some.place = sym c.place_of_key.ensures ∙ c.in-Some.is in
    let seen : Sight (lookup (at_place c.in-Some.place) c.self.inside.index.items.entries) = seen_key c.self.inside.next c.self.inside.index.items.entries (get key_cmp c.self.inside.index.by_key) (get nat_cmp c.self.inside.index.by_set) c.self.invariant.0 c.args.key.now c.in-Some.place e in
    let wrote : c.renumber.new.self.items.entries ≡ set_value (is_at (nat_cmp c.in-Some.place)) c.self.inside.index.items.entries (with_set c.self.inside.next seen.item) = c.in_ok-renumber.ensures.items seen.item seen.is in
    let left : Agrees c.in-Some-checked_add.next c.renumber.new.self.items.entries (get key_cmp c.renumber.new.self.by_key) (get nat_cmp c.renumber.new.self.by_set) = (invariant_of-self-2 c).0 in
    ap (λ n. (record { manager = Independent; next = n; items = values c.renumber.new.self.items; reported = c.self.inside.reported.items }, Applied)) c.in-Some-checked_add.ensures.1
    ∙ subst (λ (s : State). (record { manager = Independent; next = c.self.inside.next + 1; items = values c.renumber.new.self.items; reported = c.self.inside.reported.items }, Applied) ≡ after_plan s (reset s c.args.key.now (find (is_of c.args.key.now) s.items))) c.self.view_is
    (resets c.self.inside.next c.self.inside.index.items.entries (get key_cmp c.self.inside.index.by_key) (get nat_cmp c.self.inside.index.by_set) c.self.invariant.0 c.self.inside.reported.items (omega arith) c.args.key.now c.in-Some.place seen.item c.renumber.new.self.items.entries e seen.is wrote
    (wait c.in-Some-checked_add.next c.renumber.new.self.items.entries (get key_cmp c.renumber.new.self.by_key) (get nat_cmp c.renumber.new.self.by_set) left) c.in-Some-checked_add.ensures.0)
