use Rattle.std.proofs.Common.{◌≡◌, ◌∙◌, ap, arith, length, subst, sym, None, Some}
use Rattle.std.specs.BTreeMap.{BTreeMap, get}
use Rattle.std.specs.List.{find}
use Rattle.std.specs.Ordering.{nat_cmp}
use Rattle.gate_items.specs.Inner.Agreement.{Agrees}
use Rattle.gate_items.specs.KeyOrder.{key_cmp}
use Rattle.gate_items.specs.declared.item.QueueItem.{QueueItem}
use Rattle.gate_items.specs.declared.key.Key.{Key}
use Rattle.gate_items.proofs.Entries.{at_place, some_none}
use Rattle.std.specs.Map.{lookup}
use Prim.Native.Nat.{ℕ}
use Rattle.std.proofs.Common.{◌++◌, ◌∷◌, [], Bool, List, Option, cond, refl}
use Rattle.std.proofs.lemmas.List.{length-append}
use Rattle.std.proofs.lemmas.Map.{length-set_value}
use Rattle.std.specs.BTreeMap.{is_at, values}
use Rattle.std.specs.Map.{remove_entry, set_value}
use Rattle.std.specs.Option.{option_copied}
use Rattle.std.specs.Prelude.{is_some, option_map, unwrap_or}
use Rattle.gate_record.specs.declared.ids.ManagerKind.TheVariants.{Independent}
use Rattle.gate_items.specs.Machine.{State, after_plan, has_set, is_job, report_of, resulted, with_outcome}
use Rattle.gate_items.specs.declared.action.Discard.TheVariants.{NoJob, NotCurrent, Repeated}
use Rattle.gate_items.specs.declared.action.Outcome.TheVariants.{Applied, Discarded}
use Rattle.gate_items.specs.declared.item.Report.{Report}
use Rattle.gate_items.proofs.Acts.{results_no_job, results_none, results_report, results_twice, results_wait, seen_set, wait}
use Rattle.gate_items.proofs.Agreement.{removed, rewritten}
use Rattle.gate_items.proofs.Entries.{look_same, removed_set}
use Rattle.gate_items.proofs.indexed.Indexed.result.Goals as goal

pub returns-in_default : goal.returns-in_default
returns-in_default c =
    subst (λ (s : State). (s, Discarded NotCurrent) ≡ after_plan s (resulted s c.args.ended.now (find (has_set c.args.ended.now.set) s.items))) c.self.view_is
    (results_none c.self.inside.next c.self.inside.index.items.entries (get key_cmp c.self.inside.index.by_key) (get nat_cmp c.self.inside.index.by_set) c.self.invariant.0 c.self.inside.reported.items (omega arith) c.args.ended.now (sym c.place_of_set.ensures ∙ c.in_default.is))

pub returns-in_default-get : goal.returns-in_default-get
returns-in_default-get c =
    absurd (some_none (sym (seen_set c.self.inside.next c.self.inside.index.items.entries (get key_cmp c.self.inside.index.by_key) (get nat_cmp c.self.inside.index.by_set) c.self.invariant.0 c.args.ended.now.set c.in-Some.place (sym c.place_of_set.ensures ∙ c.in-Some.is)).is ∙ sym c.get.ensures.value ∙ ap option_copied c.in_default-get.is))

pub returns-in-None : goal.returns-in-None
returns-in-None c =
    subst (λ (s : State). (s, Discarded NoJob) ≡ after_plan s (resulted s c.args.ended.now (find (has_set c.args.ended.now.set) s.items))) c.self.view_is
    (results_no_job c.self.inside.next c.self.inside.index.items.entries (get key_cmp c.self.inside.index.by_key) (get nat_cmp c.self.inside.index.by_set) c.self.invariant.0 c.self.inside.reported.items (omega arith) c.args.ended.now c.in-Some.place c.in-Some-get.item.now (sym c.place_of_set.ensures ∙ c.in-Some.is) (sym c.get.ensures.value ∙ ap option_copied c.in-Some-get.is) (sym c.in-None.is ∙ c.state_of.ensures ∙ ap (λ name. option_map (λ (job : List ℕ × Option Bool). job.1) (find (is_job name) c.in-Some-get.item.now.jobs)) c.as_str.ensures))

pub returns-in-Some-Some : goal.returns-in-Some-Some
returns-in-Some-Some c =
    subst (λ (s : State). (s, Discarded Repeated) ≡ after_plan s (resulted s c.args.ended.now (find (has_set c.args.ended.now.set) s.items))) c.self.view_is
    (results_twice c.self.inside.next c.self.inside.index.items.entries (get key_cmp c.self.inside.index.by_key) (get nat_cmp c.self.inside.index.by_set) c.self.invariant.0 c.self.inside.reported.items (omega arith) c.args.ended.now c.in-Some.place c.in-Some-get.item.now (sym c.place_of_set.ensures ∙ c.in-Some.is) (sym c.get.ensures.value ∙ ap option_copied c.in-Some-get.is) c.in-Some-Some.field-0-0 (ap (λ o. Some o) (sym c.in-Some-Some.field-0-is) ∙ sym c.in-Some-Some.is ∙ c.state_of.ensures ∙ ap (λ name. option_map (λ (job : List ℕ × Option Bool). job.1) (find (is_job name) c.in-Some-get.item.now.jobs)) c.as_str.ensures))

pub invariant_of-self : goal.invariant_of-self
invariant_of-self c =
    let is : lookup (at_place c.in-Some.place) c.self.inside.index.items.entries ≡ Some c.in-Some-get.item.now = (sym c.get.ensures.value ∙ ap option_copied c.in-Some-get.is) in
    let w : QueueItem = (with_outcome c.args.ended.now.job c.args.ended.now.success c.in-Some-get.item.now) in
    let wrote : c.record.new.self.items.entries ≡ set_value (at_place c.in-Some.place) c.self.inside.index.items.entries w = c.record.ensures.items c.in-Some-get.item.now is in (
      rewritten c.self.inside.next c.self.inside.index.items.entries (get key_cmp c.self.inside.index.by_key) (get nat_cmp c.self.inside.index.by_set) c.self.invariant.0 c.in-Some.place c.in-Some-get.item.now is w c.record.new.self.items.entries (get key_cmp c.record.new.self.by_key) (get nat_cmp c.record.new.self.by_set) wrote refl refl (sym (c.record.ensures.complete c.in-Some-get.item.now is) ∙ c.if-not-record.true) (λ q. ap (λ (m : BTreeMap Key ℕ). get key_cmp m q) c.record.ensures.keys) (λ n. ap (λ (m : BTreeMap ℕ ℕ). get nat_cmp m n) c.record.ensures.sets),
      omega (arith, c.self.invariant.1, ap length wrote, length-set_value (at_place c.in-Some.place) c.self.inside.index.items.entries w),
    )

pub returns-then-not-record : goal.returns-then-not-record
returns-then-not-record c =
    let is : lookup (at_place c.in-Some.place) c.self.inside.index.items.entries ≡ Some c.in-Some-get.item.now = (sym c.get.ensures.value ∙ ap option_copied c.in-Some-get.is) in
    let w : QueueItem = (with_outcome c.args.ended.now.job c.args.ended.now.success c.in-Some-get.item.now) in
    let wrote : c.record.new.self.items.entries ≡ set_value (at_place c.in-Some.place) c.self.inside.index.items.entries w = c.record.ensures.items c.in-Some-get.item.now is in
    let left : Agrees c.self.inside.next c.record.new.self.items.entries (get key_cmp c.record.new.self.by_key) (get nat_cmp c.record.new.self.by_set) = (invariant_of-self c).0 in
    subst (λ (s : State). (record { manager = Independent; next = c.self.inside.next; items = values c.record.new.self.items; reported = c.self.inside.reported.items }, Applied) ≡ after_plan s (resulted s c.args.ended.now (find (has_set c.args.ended.now.set) s.items))) c.self.view_is
    (results_wait c.self.inside.next c.self.inside.index.items.entries (get key_cmp c.self.inside.index.by_key) (get nat_cmp c.self.inside.index.by_set) c.self.invariant.0 c.self.inside.reported.items (omega arith) c.args.ended.now c.in-Some.place c.in-Some-get.item.now (sym c.place_of_set.ensures ∙ c.in-Some.is) (sym c.get.ensures.value ∙ ap option_copied c.in-Some-get.is) c.record.new.self.items.entries (ap (λ o. Some o) (sym c.in-Some-None.field-0-is) ∙ sym c.in-Some-None.is ∙ c.state_of.ensures ∙ ap (λ name. option_map (λ (job : List ℕ × Option Bool). job.1) (find (is_job name) c.in-Some-get.item.now.jobs)) c.as_str.ensures) wrote
    (wait c.self.inside.next c.record.new.self.items.entries (get key_cmp c.record.new.self.by_key) (get nat_cmp c.record.new.self.by_set) left))

pub invariant_of-self-in_default-take_out : goal.invariant_of-self-in_default-take_out
invariant_of-self-in_default-take_out c =
    let is : lookup (at_place c.in-Some.place) c.self.inside.index.items.entries ≡ Some c.in-Some-get.item.now = (sym c.get.ensures.value ∙ ap option_copied c.in-Some-get.is) in
    let w : QueueItem = (with_outcome c.args.ended.now.job c.args.ended.now.success c.in-Some-get.item.now) in
    let wrote : c.record.new.self.items.entries ≡ set_value (at_place c.in-Some.place) c.self.inside.index.items.entries w = c.record.ensures.items c.in-Some-get.item.now is in
    absurd (some_none (sym (ap (lookup (at_place c.in-Some.place)) wrote ∙ look_same c.in-Some.place w c.self.inside.index.items.entries (ap is_some is)) ∙ sym c.take_out.ensures.value ∙ c.in_default-take_out.is))

pub returns-in_default-take_out : goal.returns-in_default-take_out
returns-in_default-take_out c =
    let is : lookup (at_place c.in-Some.place) c.self.inside.index.items.entries ≡ Some c.in-Some-get.item.now = (sym c.get.ensures.value ∙ ap option_copied c.in-Some-get.is) in
    let w : QueueItem = (with_outcome c.args.ended.now.job c.args.ended.now.success c.in-Some-get.item.now) in
    let wrote : c.record.new.self.items.entries ≡ set_value (at_place c.in-Some.place) c.self.inside.index.items.entries w = c.record.ensures.items c.in-Some-get.item.now is in
    absurd (some_none (sym (ap (lookup (at_place c.in-Some.place)) wrote ∙ look_same c.in-Some.place w c.self.inside.index.items.entries (ap is_some is)) ∙ sym c.take_out.ensures.value ∙ c.in_default-take_out.is))

pub invariant_of-self-2 : goal.invariant_of-self-2
invariant_of-self-2 c =
    let is : lookup (at_place c.in-Some.place) c.self.inside.index.items.entries ≡ Some c.in-Some-get.item.now = (sym c.get.ensures.value ∙ ap option_copied c.in-Some-get.is) in
    let w : QueueItem = (with_outcome c.args.ended.now.job c.args.ended.now.success c.in-Some-get.item.now) in
    let wrote : c.record.new.self.items.entries ≡ set_value (at_place c.in-Some.place) c.self.inside.index.items.entries w = c.record.ensures.items c.in-Some-get.item.now is in
    let same : lookup (at_place c.in-Some.place) c.record.new.self.items.entries ≡ Some w = ap (lookup (at_place c.in-Some.place)) wrote ∙ look_same c.in-Some.place w c.self.inside.index.items.entries (ap is_some is) in
    let out : c.in-Some-take_out.item ≡ w = ap (λ o. unwrap_or o c.in-Some-take_out.item) (sym c.in-Some-take_out.is ∙ c.take_out.ensures.value ∙ same) in
    let gone : c.take_out.new.self.items.entries ≡ remove_entry (at_place c.in-Some.place) c.self.inside.index.items.entries = c.take_out.ensures.items ∙ ap (remove_entry (at_place c.in-Some.place)) wrote ∙ removed_set c.in-Some.place w c.self.inside.index.items.entries in (
      removed c.self.inside.next c.self.inside.index.items.entries (get key_cmp c.self.inside.index.by_key) (get nat_cmp c.self.inside.index.by_set) c.self.invariant.0 c.in-Some.place c.in-Some-get.item.now is c.take_out.new.self.items.entries (get key_cmp c.take_out.new.self.by_key) (get nat_cmp c.take_out.new.self.by_set) gone
          (λ q. c.in-Some-take_out.ensures.keys q ∙ ap (λ (i : QueueItem). cond (is_at (key_cmp i.key) q) None (get key_cmp c.record.new.self.by_key q)) out ∙ ap (λ (m : BTreeMap Key ℕ). cond (is_at (key_cmp w.key) q) None (get key_cmp m q)) c.record.ensures.keys)
          (λ n. c.in-Some-take_out.ensures.sets n ∙ ap (λ (i : QueueItem). cond (is_at (nat_cmp i.set) n) None (get nat_cmp c.record.new.self.by_set n)) out ∙ ap (λ (m : BTreeMap ℕ ℕ). cond (is_at (nat_cmp w.set) n) None (get nat_cmp m n)) c.record.ensures.sets),
      omega (arith, c.self.invariant.1, c.in-Some-take_out.ensures.len, ap length wrote, length-set_value (at_place c.in-Some.place) c.self.inside.index.items.entries w, ap length c.push_reserved.ensures.items, length-append c.self.inside.reported.items (c.report_of.result ∷ []), c.push_reserved.ensures.capacity),
    )

pub returns : goal.returns
returns c =
    let is : lookup (at_place c.in-Some.place) c.self.inside.index.items.entries ≡ Some c.in-Some-get.item.now = (sym c.get.ensures.value ∙ ap option_copied c.in-Some-get.is) in
    let w : QueueItem = (with_outcome c.args.ended.now.job c.args.ended.now.success c.in-Some-get.item.now) in
    let wrote : c.record.new.self.items.entries ≡ set_value (at_place c.in-Some.place) c.self.inside.index.items.entries w = c.record.ensures.items c.in-Some-get.item.now is in
    let same : lookup (at_place c.in-Some.place) c.record.new.self.items.entries ≡ Some w = ap (lookup (at_place c.in-Some.place)) wrote ∙ look_same c.in-Some.place w c.self.inside.index.items.entries (ap is_some is) in
    let out : c.in-Some-take_out.item ≡ w = ap (λ o. unwrap_or o c.in-Some-take_out.item) (sym c.in-Some-take_out.is ∙ c.take_out.ensures.value ∙ same) in
    let gone : c.take_out.new.self.items.entries ≡ remove_entry (at_place c.in-Some.place) c.self.inside.index.items.entries = c.take_out.ensures.items ∙ ap (remove_entry (at_place c.in-Some.place)) wrote ∙ removed_set c.in-Some.place w c.self.inside.index.items.entries in
    let added : c.push_reserved.new.self.items ≡ c.self.inside.reported.items ++ report_of w ∷ [] = c.push_reserved.ensures.items ∙ ap (λ (r : Report). c.self.inside.reported.items ++ r ∷ []) (c.report_of.ensures ∙ ap report_of out) in
    subst (λ (s : State). (record { manager = Independent; next = c.self.inside.next; items = values c.take_out.new.self.items; reported = c.push_reserved.new.self.items }, Applied) ≡ after_plan s (resulted s c.args.ended.now (find (has_set c.args.ended.now.set) s.items))) c.self.view_is
    (results_report c.self.inside.next c.self.inside.index.items.entries (get key_cmp c.self.inside.index.by_key) (get nat_cmp c.self.inside.index.by_set) c.self.invariant.0 c.self.inside.reported.items (omega arith) c.args.ended.now c.in-Some.place c.in-Some-get.item.now (sym c.place_of_set.ensures ∙ c.in-Some.is) (sym c.get.ensures.value ∙ ap option_copied c.in-Some-get.is) c.take_out.new.self.items.entries c.push_reserved.new.self.items (ap (λ o. Some o) (sym c.in-Some-None.field-0-is) ∙ sym c.in-Some-None.is ∙ c.state_of.ensures ∙ ap (λ name. option_map (λ (job : List ℕ × Option Bool). job.1) (find (is_job name) c.in-Some-get.item.now.jobs)) c.as_str.ensures) (sym (c.record.ensures.complete c.in-Some-get.item.now is) ∙ c.if-not-record.false) gone added)
