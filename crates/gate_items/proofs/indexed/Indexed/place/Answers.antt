use Rattle.std.proofs.Common.{◌≡◌, ◌∙◌, ◌+◌, ap, arith, length, subst, sym}
use Rattle.std.specs.BTreeMap.{get}
use Rattle.std.specs.List.{find}
use Rattle.std.specs.Ordering.{nat_cmp}
use Rattle.gate_items.specs.KeyOrder.{key_cmp}
use Rattle.gate_items.specs.declared.item.QueueItem.{QueueItem}
use Rattle.std.proofs.Common.{refl, w64}
use Rattle.std.proofs.lemmas.Int.{to_z-of_z}
use Rattle.std.specs.BTreeMap.{values}
use Rattle.gate_record.specs.declared.ids.ManagerKind.TheVariants.{Independent}
use Rattle.gate_items.specs.Inner.Agreement.{Agrees, cause, standing}
use Rattle.gate_items.specs.Machine.{State, after_plan, is_of, new_item, placing}
use Rattle.gate_items.specs.declared.action.Discard.TheVariants.{Numbers}
use Rattle.gate_items.specs.declared.action.Outcome.TheVariants.{Applied, Discarded}
use Rattle.gate_items.proofs.Acts.{on_err, wait}
use Rattle.gate_items.proofs.Agreement.{new_place, new_set, same_answers}
use Rattle.gate_items.proofs.Placing.{Anew, left_fewer, new_waits, place_applies, placed_as, places, places_full, places_refused}
use Rattle.gate_items.proofs.indexed.Indexed.place.Goals as goal

pub returns-in-Some-clause-does : goal.returns-in-Some-clause-does
returns-in-Some-clause-does c =
    subst (λ (s : State). (s, Discarded c.in-Some.why) ≡ after_plan s (placing s c.args.key.now c.args.patchset c.args.jobs.now (find (is_of c.args.key.now) s.items))) c.self.view_is
    (places_refused c.self.inside.next c.self.inside.index.items.entries (get key_cmp c.self.inside.index.by_key) (get nat_cmp c.self.inside.index.by_set) c.self.invariant.0 c.self.inside.reported.items c.args.key.now c.args.patchset c.args.jobs.now c.place_of_key-older.result c.in-Some.why (sym c.place_of_key-older.ensures) (sym (c.why_not.ensures ∙ ap (λ y. cause y (standing c.place_of_key-older.result (get nat_cmp c.self.inside.index.items))) (to_z-of_z w64 c.args.patchset c.ranges.patchset)) ∙ c.in-Some.is))

pub returns-in_default-checked_add-clause-does : goal.returns-in_default-checked_add-clause-does
returns-in_default-checked_add-clause-does c =
    subst (λ (s : State). (s, Discarded Numbers) ≡ after_plan s (placing s c.args.key.now c.args.patchset c.args.jobs.now (find (is_of c.args.key.now) s.items))) c.self.view_is
    (places_full c.self.inside.next c.self.inside.index.items.entries (get key_cmp c.self.inside.index.by_key) (get nat_cmp c.self.inside.index.by_set) c.self.invariant.0 c.self.inside.reported.items c.args.key.now c.args.patchset c.args.jobs.now c.place_of_key-older.result (sym c.place_of_key-older.ensures) (sym (c.why_not.ensures ∙ ap (λ y. cause y (standing c.place_of_key-older.result (get nat_cmp c.self.inside.index.items))) (to_z-of_z w64 c.args.patchset c.ranges.patchset)) ∙ c.in_default.is) c.in_default-checked_add.ensures)

pub returns-in_err-item-clause-memory : goal.returns-in_err-item-clause-memory
returns-in_err-item-clause-memory c =
    on_err _ _ (subst (λ (s : State). (after_plan s (placing s c.args.key.now c.args.patchset c.args.jobs.now (find (is_of c.args.key.now) s.items))).1 ≡ Applied) c.self.view_is
    (place_applies c.self.inside.next c.self.inside.index.items.entries (get key_cmp c.self.inside.index.by_key) (get nat_cmp c.self.inside.index.by_set) c.self.invariant.0 c.self.inside.reported.items c.args.key.now c.args.patchset c.args.jobs.now c.place_of_key-older.result (sym c.place_of_key-older.ensures) (sym (c.why_not.ensures ∙ ap (λ y. cause y (standing c.place_of_key-older.result (get nat_cmp c.self.inside.index.items))) (to_z-of_z w64 c.args.patchset c.ranges.patchset)) ∙ c.in_default.is) c.in-Some-checked_add.ensures.0))

pub returns-in_err-copy-clause-memory : goal.returns-in_err-copy-clause-memory
returns-in_err-copy-clause-memory c =
    on_err _ _ (subst (λ (s : State). (after_plan s (placing s c.args.key.now c.args.patchset c.args.jobs.now (find (is_of c.args.key.now) s.items))).1 ≡ Applied) c.self.view_is
    (place_applies c.self.inside.next c.self.inside.index.items.entries (get key_cmp c.self.inside.index.by_key) (get nat_cmp c.self.inside.index.by_set) c.self.invariant.0 c.self.inside.reported.items c.args.key.now c.args.patchset c.args.jobs.now c.place_of_key-older.result (sym c.place_of_key-older.ensures) (sym (c.why_not.ensures ∙ ap (λ y. cause y (standing c.place_of_key-older.result (get nat_cmp c.self.inside.index.items))) (to_z-of_z w64 c.args.patchset c.ranges.patchset)) ∙ c.in_default.is) c.in-Some-checked_add.ensures.0))

pub returns-in_err-reserve-clause-memory : goal.returns-in_err-reserve-clause-memory
returns-in_err-reserve-clause-memory c =
    on_err _ _ (subst (λ (s : State). (after_plan s (placing s c.args.key.now c.args.patchset c.args.jobs.now (find (is_of c.args.key.now) s.items))).1 ≡ Applied) c.self.view_is
    (place_applies c.self.inside.next c.self.inside.index.items.entries (get key_cmp c.self.inside.index.by_key) (get nat_cmp c.self.inside.index.by_set) c.self.invariant.0 c.self.inside.reported.items c.args.key.now c.args.patchset c.args.jobs.now c.place_of_key-older.result (sym c.place_of_key-older.ensures) (sym (c.why_not.ensures ∙ ap (λ y. cause y (standing c.place_of_key-older.result (get nat_cmp c.self.inside.index.items))) (to_z-of_z w64 c.args.patchset c.ranges.patchset)) ∙ c.in_default.is) c.in-Some-checked_add.ensures.0))

pub replace-requires-clause-place : goal.replace-requires-clause-place
replace-requires-clause-place c = new_place c.self.inside.next c.self.inside.index.items.entries (get key_cmp c.self.inside.index.by_key) (get nat_cmp c.self.inside.index.by_set) c.self.invariant.0

pub replace-requires-clause-set : goal.replace-requires-clause-set
replace-requires-clause-set c = new_set c.self.inside.next c.self.inside.index.items.entries (get key_cmp c.self.inside.index.by_key) (get nat_cmp c.self.inside.index.by_set) c.self.invariant.0 c.in_ok-item.item.set (omega (arith, ap (λ (i : QueueItem). i.set) c.in_ok-item.ensures))

pub invariant_of-self-in_err-replace : goal.invariant_of-self-in_err-replace
invariant_of-self-in_err-replace c = (
  same_answers c.self.inside.next c.self.inside.index.items.entries (get key_cmp c.self.inside.index.by_key) (get nat_cmp c.self.inside.index.by_set) c.self.invariant.0 c.replace.new.self.items.entries (get key_cmp c.replace.new.self.by_key) (get nat_cmp c.replace.new.self.by_set) c.in_err-replace.ensures.same_items c.in_err-replace.ensures.same_keys c.in_err-replace.ensures.same_sets,
  omega (arith, c.self.invariant.1, ap length c.in_err-replace.ensures.same_items, ap length c.in_ok-reserve.ensures.items, c.in_ok-reserve.ensures.ok, c.len.ensures.len),
)

pub returns-in_err-replace-clause-memory : goal.returns-in_err-replace-clause-memory
returns-in_err-replace-clause-memory c =
    on_err _ _ (subst (λ (s : State). (after_plan s (placing s c.args.key.now c.args.patchset c.args.jobs.now (find (is_of c.args.key.now) s.items))).1 ≡ Applied) c.self.view_is
    (place_applies c.self.inside.next c.self.inside.index.items.entries (get key_cmp c.self.inside.index.by_key) (get nat_cmp c.self.inside.index.by_set) c.self.invariant.0 c.self.inside.reported.items c.args.key.now c.args.patchset c.args.jobs.now c.place_of_key-older.result (sym c.place_of_key-older.ensures) (sym (c.why_not.ensures ∙ ap (λ y. cause y (standing c.place_of_key-older.result (get nat_cmp c.self.inside.index.items))) (to_z-of_z w64 c.args.patchset c.ranges.patchset)) ∙ c.in_default.is) c.in-Some-checked_add.ensures.0))

pub invariant_of-self-2 : goal.invariant_of-self-2
invariant_of-self-2 c =
    let item : QueueItem = new_item c.args.key.now c.args.patchset c.self.inside.next c.args.jobs.now in
    let made : c.in_ok-item.item ≡ item = c.in_ok-item.ensures ∙ ap (λ y. new_item c.args.key.now y c.self.inside.next c.args.jobs.now) (to_z-of_z w64 c.args.patchset c.ranges.patchset) in
    let anew : Anew c.self.inside.next c.self.inside.index.items.entries c.replace.new.self.items.entries (get key_cmp c.replace.new.self.by_key) (get nat_cmp c.replace.new.self.by_set) c.place_of_key-older.result item =
    placed_as c.self.inside.next c.self.inside.index.items c.self.inside.index.by_key c.self.inside.index.by_set c.self.invariant.0 item c.in_ok-item.item c.in_ok-copy.copy c.replace.new.self.items c.replace.new.self.by_key c.replace.new.self.by_set made c.in_ok-copy.ensures refl (new_waits c.args.key.now c.args.patchset c.self.inside.next c.args.jobs.now c.requires) c.place_of_key-older.result (sym c.place_of_key-older.ensures) c.in_ok-replace.ensures.ok in (
      subst (λ n. Agrees n c.replace.new.self.items.entries (get key_cmp c.replace.new.self.by_key) (get nat_cmp c.replace.new.self.by_set)) (sym c.in-Some-checked_add.ensures.1) anew.agrees,
      omega (arith, c.self.invariant.1, ap length anew.same, left_fewer c.place_of_key-older.result c.self.inside.index.items.entries (c.self.inside.next, item), ap length c.in_ok-reserve.ensures.items, c.in_ok-reserve.ensures.ok, c.len.ensures.len),
    )

pub returns-clause-does : goal.returns-clause-does
returns-clause-does c =
    let item : QueueItem = new_item c.args.key.now c.args.patchset c.self.inside.next c.args.jobs.now in
    let made : c.in_ok-item.item ≡ item = c.in_ok-item.ensures ∙ ap (λ y. new_item c.args.key.now y c.self.inside.next c.args.jobs.now) (to_z-of_z w64 c.args.patchset c.ranges.patchset) in
    let anew : Anew c.self.inside.next c.self.inside.index.items.entries c.replace.new.self.items.entries (get key_cmp c.replace.new.self.by_key) (get nat_cmp c.replace.new.self.by_set) c.place_of_key-older.result item =
    placed_as c.self.inside.next c.self.inside.index.items c.self.inside.index.by_key c.self.inside.index.by_set c.self.invariant.0 item c.in_ok-item.item c.in_ok-copy.copy c.replace.new.self.items c.replace.new.self.by_key c.replace.new.self.by_set made c.in_ok-copy.ensures refl (new_waits c.args.key.now c.args.patchset c.self.inside.next c.args.jobs.now c.requires) c.place_of_key-older.result (sym c.place_of_key-older.ensures) c.in_ok-replace.ensures.ok in
    ap (λ n. (record { manager = Independent; next = n; items = values c.replace.new.self.items; reported = c.reserve.new.self.items }, Applied)) c.in-Some-checked_add.ensures.1
    ∙ ap (λ r. (record { manager = Independent; next = c.self.inside.next + 1; items = values c.replace.new.self.items; reported = r }, Applied)) c.in_ok-reserve.ensures.items
    ∙ subst (λ (s : State). (record { manager = Independent; next = c.self.inside.next + 1; items = values c.replace.new.self.items; reported = c.self.inside.reported.items }, Applied) ≡ after_plan s (placing s c.args.key.now c.args.patchset c.args.jobs.now (find (is_of c.args.key.now) s.items))) c.self.view_is
    (places c.self.inside.next c.self.inside.index.items.entries (get key_cmp c.self.inside.index.by_key) (get nat_cmp c.self.inside.index.by_set) c.self.invariant.0 c.self.inside.reported.items c.args.key.now c.args.patchset c.args.jobs.now c.place_of_key-older.result c.replace.new.self.items.entries (sym c.place_of_key-older.ensures) (sym (c.why_not.ensures ∙ ap (λ y. cause y (standing c.place_of_key-older.result (get nat_cmp c.self.inside.index.items))) (to_z-of_z w64 c.args.patchset c.ranges.patchset)) ∙ c.in_default.is) c.in-Some-checked_add.ensures.0 anew.same
    (wait (c.self.inside.next + 1) c.replace.new.self.items.entries (get key_cmp c.replace.new.self.by_key) (get nat_cmp c.replace.new.self.by_set) anew.agrees))
