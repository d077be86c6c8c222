-- What an action of an independent pipeline leaves of its build sets, by their keys.
use Rattle.std.proofs.Common.{◌≡◌, ◌∙◌, ◌+◌, ◌<◌, ◌≤◌, ℕ, ℤ, List, [], ◌∷◌, ◌++◌, Bool, true, false, cond, Option, Some, None, length, map, nat_lt, refl, sym, ap, arith, subst, append-nil}
use Rattle.std.specs.Prelude.{◌||◌, ◌^◌, int_lt, not, option_and_then, option_map, pos}
use Rattle.std.specs.List.{filter, find}
use Rattle.std.specs.Option.{option_to_list}
use Rattle.std.specs.Ordering.{int_eq}
use Rattle.std.proofs.lemmas.Bool.{ltb-true, ltb-false}
use Rattle.std.proofs.lemmas.List.Elements.{filter-append}
use Rattle.gate_record.specs.declared.ids.ManagerKind.{ManagerKind}
use Rattle.gate_record.specs.declared.ids.ManagerKind.TheVariants.{Independent}
use Rattle.gate_items.specs.declared.action.Action.{Action}
use Rattle.gate_items.specs.declared.action.Action.TheVariants as action
use Rattle.gate_items.specs.declared.action.Manage.TheVariants as manage
use Rattle.gate_items.specs.declared.action.JobResult.{JobResult}
use Rattle.gate_items.specs.declared.action.Discard.{Discard}
use Rattle.gate_items.specs.declared.action.Discard.TheVariants.{Numbers}
use Rattle.gate_items.specs.declared.action.Outcome.{Outcome}
use Rattle.gate_items.specs.declared.action.Outcome.TheVariants.{Applied, Discarded}
use Rattle.gate_items.specs.declared.item.QueueItem.{QueueItem}
use Rattle.gate_items.specs.declared.item.Report.{Report}
use Rattle.gate_items.specs.declared.key.Key.{Key}
use Rattle.gate_items.specs.History.{after, is_current, start}
use Rattle.gate_items.specs.Keys.{is_same}
use Rattle.gate_items.specs.Inner.KeyOrder.{same_by_cmp}
use Rattle.gate_items.specs.Machine.{Plan, Refuses, Makes, State, after_plan, apply, before, behind, dequeued, ended, has_set, is_complete, is_first_failure, is_job, is_of, leaving, new_item, placing, plan, report_of, reset, resulted, staying, triggered, with_outcome, with_set}
use Rattle.gate_items.specs.Sets.{DiscardsChangeNothing, EachKeyGoes, KeysGo, cancelled, has_report, is_lost, key_meant, reported, reported_sets, set_behind, set_under, sets_of}
use Rattle.gate_items.proofs.Balances.{Well, count, count_reports, count_sets, drop_front, none_reported, times_leaving, well_on}
use Rattle.gate_items.proofs.Begins.{well_start}
use Rattle.gate_items.proofs.Each.{Each, each_append, each_before, each_behind, each_found}
use Rattle.gate_items.proofs.Entries.{tied, tied_both}
use Rattle.gate_items.proofs.Fitting.{HasJobs, named_wait, opened_wait}
use Rattle.gate_items.proofs.QueueParts.{Waits, all_chosen, both_false, found_passes, has_it, none_chosen, not_lost_current, not_lost_reported, reports_it, sets-append, sets_chosen, split_at}
use Rattle.gate_items.proofs.Sound.{made_by}
use Rattle.gate_items.proofs.Times.{bit, none_times, once, once_other, times, times-append, times_split}

-- ---- how many items have a key

abbrev pub keyed : Key → List QueueItem → ℕ
keyed key [] = 0
keyed key (item ∷ items) = bit (is_same item.key key) + keyed key items

keyed-append : (key : Key) (xs ys : List QueueItem) → keyed key (xs ++ ys) ≡ keyed key xs + keyed key ys
keyed-append key [] ys = omega arith
keyed-append key (x ∷ xs) ys = omega (arith, keyed-append key xs ys)

find_by : (b : Bool) (key : Key) (item : QueueItem) (items : List QueueItem) → bit b + keyed key items ≡ 0 → (keyed key items ≡ 0 → find (is_of key) items ≡ None) → cond b (Some item) (find (is_of key) items) ≡ None
find_by true key item items e rest = absurd (omega (arith, e))
find_by false key item items e rest = rest (omega (arith, e))

not_keyed : (key : Key) (items : List QueueItem) → keyed key items ≡ 0 → find (is_of key) items ≡ None
not_keyed key [] e = refl
not_keyed key (item ∷ items) e = find_by (is_same item.key key) key item items e (not_keyed key items)

keyed_by : (b : Bool) (key : Key) (item : QueueItem) (items : List QueueItem) → cond b (Some item) (find (is_of key) items) ≡ None → (find (is_of key) items ≡ None → keyed key items ≡ 0) → bit b + keyed key items ≡ 0
keyed_by true key item items e rest = absurd (cc)
keyed_by false key item items e rest = omega (arith, rest e)

keyed_not : (key : Key) (items : List QueueItem) → find (is_of key) items ≡ None → keyed key items ≡ 0
keyed_not key [] e = refl
keyed_not key (item ∷ items) e = keyed_by (is_same item.key key) key item items e (keyed_not key items)

-- keys that are the same are the same as the same others
same_left : (a b other : Key) → is_same a b ≡ true → is_same a other ≡ is_same b other
same_left a b other e = same_by_cmp a other ∙ tied_both a b other (sym (same_by_cmp a b) ∙ e) ∙ sym (same_by_cmp b other)

keyed_same : (key other : Key) → is_same key other ≡ true → (items : List QueueItem) → keyed other items ≡ keyed key items
keyed_same key other e [] = refl
keyed_same key other e (x ∷ xs) =
    let one : bit (is_same x.key other) ≡ bit (is_same x.key key) = ap bit (tied key other x.key (sym (same_by_cmp key other) ∙ e)) in
    omega (arith, one, keyed_same key other e xs)

-- ---- the item of a key

abbrev under : Key → List QueueItem → Option ℕ
under key items = option_map (λ (item : QueueItem). item.set) (find (is_of key) items)

skip_item : (key : Key) (xs ys : List QueueItem) (item : QueueItem) → is_same item.key key ≡ false → find (is_of key) (xs ++ item ∷ ys) ≡ find (is_of key) (xs ++ ys)
skip_item key [] ys item e = ap (λ (b : Bool). cond b (Some item) (find (is_of key) ys)) e
skip_item key (x ∷ xs) ys item e = ap (λ (o : Option QueueItem). cond (is_same x.key key) (Some x) o) (skip_item key xs ys item e)

find_past : (key : Key) (xs ys : List QueueItem) → find (is_of key) xs ≡ None → find (is_of key) (xs ++ ys) ≡ find (is_of key) ys
find_past key [] ys e = refl
find_past key (x ∷ xs) ys e = by (is_same x.key key) e (find_past key xs ys)
  where
    by : (b : Bool) → cond b (Some x) (find (is_of key) xs) ≡ None → (find (is_of key) xs ≡ None → find (is_of key) (xs ++ ys) ≡ find (is_of key) ys) → cond b (Some x) (find (is_of key) (xs ++ ys)) ≡ find (is_of key) ys
    by true f rest = absurd (cc)
    by false f rest = rest f

find_item : (key : Key) (xs ys : List QueueItem) (item : QueueItem) → keyed key xs ≡ 0 → is_same item.key key ≡ true → find (is_of key) (xs ++ item ∷ ys) ≡ Some item
find_item key xs ys item none e = find_past key xs (item ∷ ys) (not_keyed key xs none) ∙ ap (λ (b : Bool). cond b (Some item) (find (is_of key) ys)) e

under_same : (key : Key) (xs ys : List QueueItem) (w item : QueueItem) → w.key ≡ item.key → w.set ≡ item.set → under key (xs ++ w ∷ ys) ≡ under key (xs ++ item ∷ ys)
under_same key [] ys w item k e = ap (λ (other : Key). option_map (λ (x : QueueItem). x.set) (cond (is_same other key) (Some w) (find (is_of key) ys))) k ∙ by (is_same item.key key)
  where
    by : (b : Bool) → option_map (λ (x : QueueItem). x.set) (cond b (Some w) (find (is_of key) ys)) ≡ option_map (λ (x : QueueItem). x.set) (cond b (Some item) (find (is_of key) ys))
    by true = ap (λ n. Some n) e
    by false = refl
under_same key (x ∷ xs) ys w item k e = by (is_same x.key key) (under_same key xs ys w item k e)
  where
    by : (b : Bool) → under key (xs ++ w ∷ ys) ≡ under key (xs ++ item ∷ ys) →
        option_map (λ (y : QueueItem). y.set) (cond b (Some x) (find (is_of key) (xs ++ w ∷ ys))) ≡ option_map (λ (y : QueueItem). y.set) (cond b (Some x) (find (is_of key) (xs ++ item ∷ ys)))
    by true rest = refl
    by false rest = rest

-- ---- items that wait

abbrev waiting : List QueueItem → List QueueItem
waiting items = filter (λ item. not (is_complete item)) items

all_wait : (items : List QueueItem) → Each Waits items → waiting items ≡ items
all_wait [] h = refl
all_wait (item ∷ items) h = ap (λ (b : Bool). cond (not b) (item ∷ waiting items) (waiting items)) h.0 ∙ ap (λ zs. item ∷ zs) (all_wait items h.1)

none_complete : (items : List QueueItem) → Each Waits items → filter is_complete items ≡ []
none_complete [] h = refl
none_complete (item ∷ items) h = ap (λ (b : Bool). cond b (item ∷ filter is_complete items) (filter is_complete items)) h.0 ∙ none_complete items h.1

those_wait : (items : List QueueItem) → Each Waits (waiting items)
those_wait [] = tt
those_wait (item ∷ items) = by (is_complete item) refl (those_wait items)
  where
    by : (b : Bool) → is_complete item ≡ b → Each Waits (waiting items) → Each Waits (cond (not b) (item ∷ waiting items) (waiting items))
    by true e rest = rest
    by false e rest = (e, rest)

keyed_waiting : (key : Key) (items : List QueueItem) → keyed key (waiting items) ≤ keyed key items
keyed_waiting key [] = omega arith
keyed_waiting key (item ∷ items) = by (not (is_complete item)) (keyed_waiting key items)
  where
    by : (b : Bool) → keyed key (waiting items) ≤ keyed key items → keyed key (cond b (item ∷ waiting items) (waiting items)) ≤ bit (is_same item.key key) + keyed key items
    by true h = omega (arith, h)
    by false h = omega (arith, h)

waits_open : (item : QueueItem) (b : Bool) → is_complete item ≡ b → (is_complete item ≡ true → ⊥) → is_complete item ≡ false
waits_open item true e never = absurd (never e)
waits_open item false e never = e

-- ---- what is around an item that is found

module _ (test : QueueItem → Bool) (items : List QueueItem) (item : QueueItem) (found : find test items ≡ Some item) (keys : (key : Key) → keyed key items ≤ 1) where
  abbrev front : List QueueItem
  front = before test items

  abbrev rest : List QueueItem
  rest = behind test items

  split : items ≡ front ++ item ∷ rest
  split = split_at test items item found

  keyed_split : (key : Key) → keyed key items ≡ keyed key front + (bit (is_same item.key key) + keyed key rest)
  keyed_split key = ap (keyed key) split ∙ keyed-append key front (item ∷ rest)

  without_by : (key : Key) (b : Bool) → is_same item.key key ≡ b → under key (front ++ rest) ≡ cond b None (under key items)
  without_by key true e =
      let one : bit (is_same item.key key) ≡ 1 = ap bit e in
      ap (option_map (λ (x : QueueItem). x.set)) (not_keyed key (front ++ rest) (omega (arith, keyed-append key front rest, keyed_split key, one, keys key)))
  without_by key false e = ap (option_map (λ (x : QueueItem). x.set)) (sym (skip_item key front rest item e) ∙ ap (find (is_of key)) (sym split))

  without : (key : Key) → under key (front ++ rest) ≡ cond (is_same item.key key) None (under key items)
  without key = without_by key (is_same item.key key) refl

  keyed_without : (key : Key) → keyed key (front ++ rest) + bit (is_same item.key key) ≡ keyed key items
  keyed_without key = omega (arith, keyed_split key, keyed-append key front rest)

  none_ahead : (key : Key) → is_same item.key key ≡ true → keyed key front ≡ 0
  none_ahead key e = let one : bit (is_same item.key key) ≡ 1 = ap bit e in omega (arith, keyed_split key, one, keys key)

  none_left : (key : Key) → is_same item.key key ≡ true → keyed key (front ++ rest) ≡ 0
  none_left key e = let one : bit (is_same item.key key) ≡ 1 = ap bit e in omega (arith, keyed_without key, one, keys key)

-- ---- what a plan keeps, makes anew and leaves out

pub record Parts (s : State) (a : Action) (items : List QueueItem) (sets : ℕ) : Type 0 where
  pub ahead : List QueueItem
  pub lost : List QueueItem
  pub others : List QueueItem
  pub old : s.items ≡ ahead ++ (lost ++ others)
  pub keeps : (n : ℕ) → n < s.next → times n items ≡ times n ahead + times n others
  pub meant : sets_of lost ≡ option_to_list (option_and_then (set_under s) (key_meant a))
  pub keys : (key : Key) → keyed key items ≤ 1
  pub leaves : (key : Key) → under key (waiting items) ≡ set_behind s a (map report_of (filter is_complete items)) key

abbrev HasParts : State → Action → Plan → Type 0
HasParts s a (Refuses why) = Unit {0}
HasParts s a (Makes items sets) = Parts s a items sets

module _ (next : ℕ) (items : List QueueItem) (told : List Report) where
  abbrev s : State
  s = record { manager = Independent; next = next; items = items; reported = told }

  module _ (keys : (key : Key) → keyed key items ≤ 1) (waits : Each Waits items) (jobs : Each HasJobs items) where
    either : (a : Action) (b : Bool) (p q : Plan) → HasParts s a p → HasParts s a q → HasParts s a (cond b p q)
    either a true p q h k = h
    either a false p q h k = k

    new_waits : (key : Key) (patchset : ℤ) (set : ℕ) (names : List (List ℕ)) → 0 < length names → Waits (new_item key patchset set names)
    new_waits key patchset set names some = waits_open (new_item key patchset set names) (is_complete (new_item key patchset set names)) refl (λ complete. named_wait names some complete)

    not_next : (n : ℕ) → n < next → once n next ≡ 0
    not_next n h = once_other n next (λ e. omega (arith, e, h))

    -- where all that is made waits, nothing is reported
    quiet : (a : Action) (made : List QueueItem) (key : Key) → Each Waits made → under key made ≡ set_behind s a [] key → under key (waiting made) ≡ set_behind s a (map report_of (filter is_complete made)) key
    quiet a made key wait e = ap (under key) (all_wait made wait) ∙ e ∙ ap (λ (xs : List QueueItem). set_behind s a (map report_of xs) key) (sym (none_complete made wait))

    -- a new item behind
    module _ (key : Key) (patchset : ℤ) (names : List (List ℕ)) (some : 0 < length names) where
      abbrev trigger : Action
      trigger = action.Trigger (Some key) patchset names

      abbrev new : QueueItem
      new = new_item key patchset next names

      added_by : (xs : List QueueItem) (other : Key) (b : Bool) → is_same key other ≡ b → (b ≡ true → keyed other xs ≡ 0) → (b ≡ false → under other xs ≡ under other items) → under other (xs ++ new ∷ []) ≡ cond b (Some next) (under other items)
      added_by xs other true e none same = ap (option_map (λ (x : QueueItem). x.set)) (find_item other xs [] new (none refl) e)
      added_by xs other false e none same = ap (option_map (λ (x : QueueItem). x.set)) (skip_item other xs [] new e) ∙ ap (under other) (append-nil xs) ∙ same refl

      few : (xs : List QueueItem) (other : Key) (b : Bool) → is_same key other ≡ b → (b ≡ true → keyed other xs ≡ 0) → keyed other xs ≤ 1 → keyed other (xs ++ new ∷ []) ≤ 1
      few xs other true e none most = let one : bit (is_same key other) ≡ 1 = ap bit e in omega (arith, keyed-append other xs (new ∷ []), none refl, one)
      few xs other false e none most = let zero : bit (is_same key other) ≡ 0 = ap bit e in omega (arith, keyed-append other xs (new ∷ []), most, zero)

      first_parts : find (is_of key) items ≡ None → Parts s trigger (items ++ new ∷ []) 1
      first_parts e = record {
        ahead = items;
        lost = [];
        others = [];
        old = sym (append-nil items);
        keeps = λ n h. omega (arith, times-append n items (new ∷ []), not_next n h);
        meant = ap (λ (o : Option QueueItem). option_to_list (option_map (λ (x : QueueItem). x.set) o)) (sym e);
        keys = λ other. few items other (is_same key other) refl (none_of other) (keys other);
        leaves = λ other. quiet trigger (items ++ new ∷ []) other (each_append Waits items (new ∷ []) waits (new_waits key patchset next names some, tt)) (added_by items other (is_same key other) refl (none_of other) (λ _. refl));
      }
        where
          none_of : (other : Key) → is_same key other ≡ true → keyed other items ≡ 0
          none_of other same = keyed_same key other same items ∙ keyed_not key items e

      module _ (item : QueueItem) (found : find (is_of key) items ≡ Some item) where
        same_key : (other : Key) → is_same item.key other ≡ is_same key other
        same_key other = same_left item.key key other (found_passes (is_of key) items item found)

        abbrev left_over : List QueueItem
        left_over = before (is_of key) items ++ behind (is_of key) items

        left_wait : Each Waits left_over
        left_wait = each_append Waits (before (is_of key) items) (behind (is_of key) items) (each_before Waits (is_of key) items waits) (each_behind Waits (is_of key) items waits)

        left_under : (other : Key) → under other left_over ≡ cond (is_same key other) None (under other items)
        left_under other = without (is_of key) items item found keys other ∙ ap (λ (b : Bool). cond b None (under other items)) (same_key other)

        is_meant : item.set ∷ [] ≡ option_to_list (set_under s key)
        is_meant = ap (λ (o : Option QueueItem). option_to_list (option_map (λ (x : QueueItem). x.set) o)) (sym found)

        -- the parts of what is made of the items on both sides of it
        around : (a : Action) (made : List QueueItem) (sets : ℕ) → ((n : ℕ) → n < next → times n made ≡ times n (before (is_of key) items) + times n (behind (is_of key) items)) →
            item.set ∷ [] ≡ option_to_list (option_and_then (set_under s) (key_meant a)) → ((other : Key) → keyed other made ≤ 1) →
            ((other : Key) → under other (waiting made) ≡ set_behind s a (map report_of (filter is_complete made)) other) → Parts s a made sets
        around a made sets keeps meant one_each leaves = record {
          ahead = before (is_of key) items;
          lost = item ∷ [];
          others = behind (is_of key) items;
          old = split (is_of key) items item found keys;
          keeps = keeps;
          meant = meant;
          keys = one_each;
          leaves = leaves;
        }

        replaced_parts : Parts s trigger (left_over ++ new ∷ []) 1
        replaced_parts =
            around trigger (left_over ++ new ∷ []) 1 (λ n h. omega (arith, times-append n left_over (new ∷ []), times-append n (before (is_of key) items) (behind (is_of key) items), not_next n h)) is_meant
            (λ other. few left_over other (is_same key other) refl (λ same. none_left (is_of key) items item found keys other (same_key other ∙ same)) (omega (arith, keyed_without (is_of key) items item found keys other, keys other)))
            (λ other. quiet trigger (left_over ++ new ∷ []) other (each_append Waits left_over (new ∷ []) left_wait (new_waits key patchset next names some, tt))
            (added_by left_over other (is_same key other) refl (λ same. none_left (is_of key) items item found keys other (same_key other ∙ same))
            (λ differs. left_under other ∙ ap (λ (b : Bool). cond b None (under other items)) differs)))

        dequeued_parts : Parts s (action.Manage (manage.Dequeue key)) left_over 0
        dequeued_parts =
            around (action.Manage (manage.Dequeue key)) left_over 0 (λ n h. times-append n (before (is_of key) items) (behind (is_of key) items)) is_meant
            (λ other. omega (arith, keyed_without (is_of key) items item found keys other, keys other))
            (λ other. quiet (action.Manage (manage.Dequeue key)) left_over other left_wait (left_under other))

        abbrev again : QueueItem
        again = with_set next item

        again_waits : Waits again
        again_waits = waits_open again (is_complete again) refl (λ complete. opened_wait item.jobs (each_found HasJobs (is_of key) items item jobs found) complete)

        abbrev renewed_all : List QueueItem
        renewed_all = before (is_of key) items ++ again ∷ behind (is_of key) items

        renewed_by : (other : Key) (b : Bool) → is_same item.key other ≡ b → under other renewed_all ≡ cond b (Some next) (under other items)
        renewed_by other true e = ap (option_map (λ (x : QueueItem). x.set)) (find_item other (before (is_of key) items) (behind (is_of key) items) again (none_ahead (is_of key) items item found keys other e) e)
        renewed_by other false e =
            ap (option_map (λ (x : QueueItem). x.set)) (skip_item other (before (is_of key) items) (behind (is_of key) items) again e)
            ∙ without (is_of key) items item found keys other ∙ ap (λ (b : Bool). cond b None (under other items)) e

        renewed_parts : Parts s (action.Manage (manage.Reset key)) renewed_all 1
        renewed_parts =
            around (action.Manage (manage.Reset key)) renewed_all 1 (λ n h. omega (arith, times-append n (before (is_of key) items) (again ∷ behind (is_of key) items), not_next n h)) is_meant
            (λ other. omega (arith, keyed_split (is_of key) items item found keys other, keyed-append other (before (is_of key) items) (again ∷ behind (is_of key) items), keys other))
            (λ other. quiet (action.Manage (manage.Reset key)) renewed_all other
            (each_append Waits (before (is_of key) items) (again ∷ behind (is_of key) items) (each_before Waits (is_of key) items waits) (again_waits, each_behind Waits (is_of key) items waits))
            (renewed_by other (is_same item.key other) refl ∙ ap (λ (b : Bool). cond b (Some next) (under other items)) (same_key other)))

    -- an outcome
    module _ (result : JobResult) (item : QueueItem) (found : find (has_set result.set) items ≡ Some item) where
      abbrev in_front : List QueueItem
      in_front = before (has_set result.set) items

      abbrev the_rest : List QueueItem
      the_rest = behind (has_set result.set) items

      abbrev told_item : QueueItem
      told_item = with_outcome result.job result.success item

      abbrev told_all : List QueueItem
      told_all = in_front ++ told_item ∷ the_rest

      in_front_wait : Each Waits in_front
      in_front_wait = each_before Waits (has_set result.set) items waits

      the_rest_waits : Each Waits the_rest
      the_rest_waits = each_behind Waits (has_set result.set) items waits

      those_left : waiting told_all ≡ in_front ++ cond (not (is_complete told_item)) (told_item ∷ the_rest) the_rest
      those_left =
          filter-append (λ item. not (is_complete item)) in_front (told_item ∷ the_rest)
          ∙ ap (λ (xs : List QueueItem). xs ++ waiting (told_item ∷ the_rest)) (all_wait in_front in_front_wait)
          ∙ ap (λ (xs : List QueueItem). in_front ++ cond (not (is_complete told_item)) (told_item ∷ xs) xs) (all_wait the_rest the_rest_waits)

      those_told : filter is_complete told_all ≡ cond (is_complete told_item) (told_item ∷ []) []
      those_told =
          filter-append is_complete in_front (told_item ∷ the_rest)
          ∙ ap (λ (xs : List QueueItem). xs ++ filter is_complete (told_item ∷ the_rest)) (none_complete in_front in_front_wait)
          ∙ ap (λ (xs : List QueueItem). cond (is_complete told_item) (told_item ∷ xs) xs) (none_complete the_rest the_rest_waits)

      or_false : (b : Bool) → b ≡ (b || false)
      or_false true = refl
      or_false false = refl

      told_by : (other : Key) (b : Bool) → under other (in_front ++ cond (not b) (told_item ∷ the_rest) the_rest) ≡ set_behind s (action.Result result) (map report_of (cond b (told_item ∷ []) [])) other
      told_by other true = without (has_set result.set) items item found keys other ∙ ap (λ (b : Bool). cond b None (under other items)) (or_false (is_same item.key other))
      told_by other false = under_same other in_front the_rest told_item item refl refl ∙ ap (under other) (sym (split (has_set result.set) items item found keys))

      told_parts : Parts s (action.Result result) told_all 0
      told_parts = record {
        ahead = items;
        lost = [];
        others = [];
        old = sym (append-nil items);
        keeps = λ n h. omega (arith, times-append n in_front (told_item ∷ the_rest), times_split n (has_set result.set) items item found);
        meant = refl;
        keys = λ other. omega (arith, keyed_split (has_set result.set) items item found keys other, keyed-append other in_front (told_item ∷ the_rest), keys other);
        leaves = λ other. ap (under other) those_left ∙ told_by other (is_complete told_item) ∙ ap (λ (xs : List QueueItem). set_behind s (action.Result result) (map report_of xs) other) (sym those_told);
      }

    -- ---- each action

    of_placing : (key : Key) (patchset : ℤ) (names : List (List ℕ)) → 0 < length names → (o : Option QueueItem) → find (is_of key) items ≡ o → HasParts s (action.Trigger (Some key) patchset names) (placing s key patchset names o)
    of_placing key patchset names some None e = first_parts key patchset names some e
    of_placing key patchset names some (Some item) e =
        let a = action.Trigger (Some key) patchset names in
        let same : next ≡ next + 0 = omega arith in
        either a (int_eq patchset item.patchset) _ _ tt
        (either a (int_lt patchset item.patchset) _ _ tt
        (subst (λ k. Parts s a ((before (is_of key) items ++ behind (is_of key) items) ++ new_item key patchset k names ∷ []) 1) same (replaced_parts key patchset names some item e)))

    of_trigger : (key : Option Key) (patchset : ℤ) (names : List (List ℕ)) → HasParts s (action.Trigger key patchset names) (triggered s key patchset names)
    of_trigger None patchset names = tt
    of_trigger (Some key) patchset [] = tt
    of_trigger (Some key) patchset (name ∷ names) = of_placing key patchset (name ∷ names) (omega arith) (find (is_of key) items) refl

    of_job : (result : JobResult) (item : QueueItem) (o : Option (List ℕ × Option Bool)) → find (has_set result.set) items ≡ Some item → HasParts s (action.Result result) (ended s result item o)
    of_job result item None e = tt
    of_job result item (Some (name, Some success)) e = tt
    of_job result item (Some (name, None)) e = either (action.Result result) (is_first_failure result.success item) _ _ (told_parts result item e) (told_parts result item e)

    of_result : (result : JobResult) (o : Option QueueItem) → find (has_set result.set) items ≡ o → HasParts s (action.Result result) (resulted s result o)
    of_result result None e = tt
    of_result result (Some item) e = of_job result item (find (is_job result.job) item.jobs) e

    -- (what a trigger would bring isn't looked at)
    of_dequeue : (key : Key) (o : Option QueueItem) → find (is_of key) items ≡ o → HasParts s (action.Manage (manage.Dequeue key)) (dequeued s key o)
    of_dequeue key None e = tt
    of_dequeue key (Some item) e = dequeued_parts key (pos 0) ([] ∷ []) (omega arith) item e

    of_reset : (key : Key) (o : Option QueueItem) → find (is_of key) items ≡ o → HasParts s (action.Manage (manage.Reset key)) (reset s key o)
    of_reset key None e = tt
    of_reset key (Some item) e = renewed_parts key (pos 0) ([] ∷ []) (omega arith) item e

    has_parts : (a : Action) → HasParts s a (plan s a)
    has_parts (action.Trigger key patchset names) = of_trigger key patchset names
    has_parts (action.Result result) = of_result result (find (has_set result.set) items) refl
    has_parts (action.Manage (manage.Dequeue key)) = of_dequeue key (find (is_of key) items) refl
    has_parts (action.Manage (manage.Reset key)) = of_reset key (find (is_of key) items) refl

-- ---- the states that there are

pub record Kept (s : State) : Type 0 where
  pub independent : s.manager ≡ Independent
  pub well : Well s
  pub keys : (key : Key) → keyed key s.items ≤ 1
  pub waits : Each Waits s.items

module _ (s : State) (kept : Kept s) (a : Action) where
  abbrev with_manager : ManagerKind → State
  with_manager m = record { manager = m; next = s.next; items = s.items; reported = s.reported }

  parts_here : HasParts s a (plan s a)
  parts_here = subst (λ m. HasParts (with_manager m) a (plan (with_manager m) a)) (sym kept.independent) (has_parts s.next s.items s.reported kept.keys kept.waits kept.well.jobs a)

  module _ (items : List QueueItem) (sets : ℕ) (parts : Parts s a items sets) where
    abbrev left : State
    left = made_by s items sets

    left_items : left.items ≡ waiting items
    left_items = ap (λ (m : ManagerKind). staying m items) kept.independent

    told : reported s left ≡ map report_of (filter is_complete items)
    told = drop_front s.reported (map report_of (leaving s.manager items)) ∙ ap (λ (m : ManagerKind). map report_of (leaving m items)) kept.independent

    all_count : (n : ℕ) → count n (reported_sets (reported s left)) + times n left.items ≡ times n items
    all_count n =
        let leave : count n (reported_sets (reported s left)) ≡ times n (leaving s.manager items) =
        ap (λ (rs : List Report). count n (reported_sets rs)) (drop_front s.reported (map report_of (leaving s.manager items))) ∙ count_reports n (leaving s.manager items) in
        omega (arith, leave, times_leaving s.manager n items)

    old_count : (n : ℕ) → times n s.items ≡ times n parts.ahead + (times n parts.lost + times n parts.others)
    old_count n = ap (times n) parts.old ∙ times-append n parts.ahead (parts.lost ++ parts.others) ∙ ap (λ k. times n parts.ahead + k) (times-append n parts.lost parts.others)

    handed_by : (n : ℕ) (b : Bool) → (b ≡ true → n < s.next) → (b ≡ false → s.next ≤ n) → 1 ≤ times n s.items → n < s.next
    handed_by n true low high h = low refl
    handed_by n false low high h = absurd (omega (arith, h, kept.well.sound.high n (high refl)))

    handed : (n : ℕ) → 1 ≤ times n s.items → n < s.next
    handed n h = handed_by n (nat_lt n s.next) (ltb-true n s.next) (ltb-false n s.next) h

    kept_by : (n : ℕ) (b : Bool) → (b ≡ true → 0 < times n left.items) → (b ≡ false → times n left.items ≤ 0) → 1 ≤ times n items → is_lost s left n ≡ false
    kept_by n true some none h = not_lost_current (is_current left n) (has_report (reported s left) n) (has_it left n (omega (arith, some refl)))
    kept_by n false some none h = not_lost_reported (is_current left n) (has_report (reported s left) n) (reports_it (reported s left) n (omega (arith, none refl, h, all_count n)))

    stays : (n : ℕ) → 1 ≤ times n parts.ahead + times n parts.others → is_lost s left n ≡ false
    stays n h = kept_by n (nat_lt 0 (times n left.items)) (ltb-true 0 (times n left.items)) (ltb-false 0 (times n left.items)) (omega (arith, h, parts.keeps n (handed n (omega (arith, h, old_count n)))))

    gone : (n : ℕ) → 1 ≤ times n parts.lost → is_lost s left n ≡ true
    gone n h =
        let made_none : times n items ≡ 0 = omega (arith, h, old_count n, kept.well.sound.most n, parts.keeps n (handed n (omega (arith, h, old_count n)))) in
        both_false (is_current left n) (has_report (reported s left) n)
        (none_times n left.items (omega (arith, made_none, all_count n))) (none_reported n (reported s left) (omega (arith, made_none, all_count n)))

    sets_parts : sets_of s.items ≡ sets_of parts.ahead ++ (sets_of parts.lost ++ sets_of parts.others)
    sets_parts = ap sets_of parts.old ∙ sets-append parts.ahead (parts.lost ++ parts.others) ∙ ap (λ ns. sets_of parts.ahead ++ ns) (sets-append parts.lost parts.others)

    lost_sets : sets_of (cancelled s left) ≡ sets_of parts.lost
    lost_sets =
        let f : ℕ → Bool = is_lost s left in
        sets_chosen f s.items
        ∙ ap (filter f) sets_parts
        ∙ filter-append f (sets_of parts.ahead) (sets_of parts.lost ++ sets_of parts.others)
        ∙ ap (λ ns. ns ++ filter f (sets_of parts.lost ++ sets_of parts.others)) (none_chosen f (sets_of parts.ahead) (λ n h. stays n (omega (arith, h, count_sets n parts.ahead))))
        ∙ filter-append f (sets_of parts.lost) (sets_of parts.others)
        ∙ ap (λ ns. ns ++ filter f (sets_of parts.others)) (all_chosen f (sets_of parts.lost) (λ n h. gone n (omega (arith, h, count_sets n parts.lost))))
        ∙ ap (λ ns. sets_of parts.lost ++ ns) (none_chosen f (sets_of parts.others) (λ n h. stays n (omega (arith, h, count_sets n parts.others))))
        ∙ append-nil (sets_of parts.lost)

    made_goes : KeysGo s a left
    made_goes = record {
      cancels = lost_sets ∙ parts.meant;
      under = λ key. ap (under key) left_items ∙ parts.leaves key ∙ ap (λ (rs : List Report). set_behind s a rs key) (sym told);
    }

    made_kept : Well left → Kept left
    made_kept well = record {
      independent = kept.independent;
      well = well;
      keys = λ key. let same : keyed key left.items ≡ keyed key (waiting items) = ap (keyed key) left_items in omega (arith, same, keyed_waiting key items, parts.keys key);
      waits = subst (Each Waits) (sym left_items) (those_wait items);
    }

  abbrev GoesIf : State × Outcome → Type 0
  GoesIf end = end.1 ≡ Applied → KeysGo s a end.0

  goes_if : (b : Bool) (items : List QueueItem) (sets : ℕ) → Parts s a items sets → GoesIf (cond {A = State × Outcome} b (made_by s items sets, Applied) (s, Discarded Numbers))
  goes_if true items sets parts applied = made_goes items sets parts
  goes_if false items sets parts applied = absurd (cc)

  goes_by : (p : Plan) → HasParts s a p → GoesIf (after_plan s p)
  goes_by (Refuses why) parts applied = absurd (cc)
  goes_by (Makes items sets) parts applied = goes_if (nat_lt (s.next + sets) (2 ^ 64)) items sets parts applied

  keys_go : (apply s a).1 ≡ Applied → KeysGo s a (apply s a).0
  keys_go applied = goes_by (plan s a) parts_here applied

  kept_if : (b : Bool) (items : List QueueItem) (sets : ℕ) → Parts s a items sets → Well (cond {A = State × Outcome} b (made_by s items sets, Applied) (s, Discarded Numbers)).0 → Kept (cond {A = State × Outcome} b (made_by s items sets, Applied) (s, Discarded Numbers)).0
  kept_if true items sets parts well = made_kept items sets parts well
  kept_if false items sets parts well = kept

  kept_plan : (p : Plan) → HasParts s a p → Well (after_plan s p).0 → Kept (after_plan s p).0
  kept_plan (Refuses why) parts well = kept
  kept_plan (Makes items sets) parts well = kept_if (nat_lt (s.next + sets) (2 ^ 64)) items sets parts well

  kept_on : Kept (apply s a).0
  kept_on = kept_plan (plan s a) parts_here (well_on s kept.well a)

kept_after : (s : State) → Kept s → (actions : List Action) → Kept (after s actions)
kept_after s kept [] = kept
kept_after s kept (a ∷ actions) = kept_after (apply s a).0 (kept_on s kept a) actions

kept_start : (first : ℕ) → Kept (start Independent first)
kept_start first = record { independent = refl; well = well_start Independent first; keys = λ key. omega arith; waits = tt }

pub each_key_goes : EachKeyGoes
each_key_goes first actions a applied = keys_go (after (start Independent first) actions) (kept_after (start Independent first) (kept_start first) actions) a applied

-- ---- what is discarded

same_if : (s : State) (b : Bool) (items : List QueueItem) (sets : ℕ) (why : Discard) → (cond {A = State × Outcome} b (made_by s items sets, Applied) (s, Discarded Numbers)).1 ≡ Discarded why → (cond {A = State × Outcome} b (made_by s items sets, Applied) (s, Discarded Numbers)).0 ≡ s
same_if s true items sets why e = absurd (cc)
same_if s false items sets why e = refl

same_by : (s : State) (p : Plan) (why : Discard) → (after_plan s p).1 ≡ Discarded why → (after_plan s p).0 ≡ s
same_by s (Refuses reason) why e = refl
same_by s (Makes items sets) why e = same_if s (nat_lt (s.next + sets) (2 ^ 64)) items sets why e

pub discards_change_nothing : DiscardsChangeNothing
discards_change_nothing s a why e = same_by s (plan s a) why e
