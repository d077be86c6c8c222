-- A reader of a journal rebuilds the queue: the facts of an action make of the queue before it the queue after it.
use Rattle.std.proofs.Common.{◌≡◌, ◌∙◌, refl, sym, ap, subst, inl, inr, ◌+◌, ◌-◌, ◌<◌, ◌≤◌, ℕ, ℤ, suc, zero, List, [], ◌∷◌, ◌++◌, Bool, true, false, cond, Option, Some, None, length, drop, map, nat_eq, nat_lt, append-nil, append_assoc, arith}
use Rattle.std.specs.Prelude.{◌&&◌, ◌||◌, ◌^◌, ◌⊎◌, get_or, int_lt, not}
use Rattle.std.specs.Cmp.{tied_itself}
use Rattle.std.specs.List.{cons_option, filter, filter_map, find, fold, list_any, range_with_len}
use Rattle.std.specs.Ordering.{int_eq, is_eq}
use Rattle.std.proofs.lemmas.Bool.{eq-eqb, eqb-true, eqb-false, ne_eqb, ltb-true, ltb-false}
use Rattle.std.proofs.lemmas.Grind.{fold-append}
use Rattle.std.proofs.lemmas.List.{map-append}
use Rattle.std.proofs.lemmas.List.Elements.{filter-append, filter_map-append}
use Rattle.gate_record.specs.declared.ids.ManagerKind.{ManagerKind}
use Rattle.gate_record.specs.declared.ids.ManagerKind.TheVariants.{Independent, Dependent}
use Rattle.gate_record.specs.declared.ids.Stamp.{Stamp}
use Rattle.gate_items.specs.declared.action.Action.{Action}
use Rattle.gate_items.specs.declared.action.Action.TheVariants as action
use Rattle.gate_items.specs.declared.action.Manage.TheVariants as manage
use Rattle.gate_items.specs.declared.action.JobResult.{JobResult}
use Rattle.gate_items.specs.declared.action.Discard.TheVariants.{Numbers}
use Rattle.gate_items.specs.declared.action.Outcome.{Outcome}
use Rattle.gate_items.specs.declared.action.Outcome.TheVariants.{Applied, Discarded}
use Rattle.gate_items.specs.declared.item.QueueItem.{QueueItem}
use Rattle.gate_items.specs.declared.item.Report.{Report}
use Rattle.gate_items.specs.declared.key.Key.{Key}
use Rattle.gate_items.specs.History.{after, is_current, start}
use Rattle.gate_items.specs.Keys.{is_same}
use Rattle.gate_items.specs.KeyOrder.{key_cmp_total}
use Rattle.gate_items.specs.Inner.KeyOrder.{same_by_cmp}
use Rattle.gate_items.specs.Machine.{Plan, Refuses, Makes, State, after_plan, apply, before, behind, behind_it, dequeued, ended, has_set, head_of, is_complete, is_first_failure, is_job, is_of, leaving, new_item, open_job, placing, plan, renewed, report_of, reset, rest_of, resulted, sets_behind, staying, triggered, with_outcome, with_set}
use Rattle.gate_items.specs.Sets.{begun, cancelled, has_report, is_lost, reported, reported_sets, sets_of}
use Rattle.gate_items.proofs.Balances.{Well, count, count_reports, count_sets, drop_front, none_reported, reported_none, times_leaving, well_on}
use Rattle.gate_items.proofs.Begins.{well_start}
use Rattle.gate_items.proofs.Chunks.{chunk_renewed}
use Rattle.gate_items.proofs.Each.{Each, each_append, each_map}
use Rattle.gate_items.proofs.Entries.{tied, tied_both}
use Rattle.gate_items.proofs.Fitting.{Fits, FitsPlan, fits_plan}
use Rattle.gate_items.proofs.KeyParts.{keyed}
use Rattle.gate_items.proofs.QueueParts.{Waits, all_chosen, both_false, found_passes, none_chosen, sets-append, sets_chosen, split_at}
use Rattle.gate_items.proofs.Sound.{Fresh, FreshPlan, Sound, fresh_plan, fewer_sound, made_by}
use Rattle.gate_items.proofs.Times.{bit, none_times, once, once_other, times, times-append, times_none, times_split}
use Rattle.gate_journal.specs.declared.cause.CancelCause.TheVariants.{Ahead}
use Rattle.gate_journal.specs.Facts.{Fact, begin_facts, begun_item, build_set, cancel_facts, cancels, facts_after, facts_of, reports, result_facts}
use Rattle.gate_journal.specs.Queues.{FactsTellTheQueue, actions_of, in_place, queue_after, reported_by, with_begun, with_result, without}

-- ---- how many items have a key

keyed-append : (key : Key) (xs ys : List QueueItem) → keyed key (xs ++ ys) ≡ keyed key xs + keyed key ys
keyed-append key [] ys = omega arith
keyed-append key (x ∷ xs) ys = omega (arith, keyed-append key xs ys)

same_itself : (key : Key) → is_same key key ≡ true
same_itself key = same_by_cmp key key ∙ ap is_eq (tied_itself key_cmp_total key)

-- keys that are the same are the same as the same others
same_left : (a b other : Key) → is_same a b ≡ true → is_same a other ≡ is_same b other
same_left a b other e = same_by_cmp a other ∙ tied_both a b other (sym (same_by_cmp a b) ∙ e) ∙ sym (same_by_cmp b other)

keyed_not : (key : Key) (items : List QueueItem) → find (is_of key) items ≡ None → keyed key items ≡ 0
keyed_not key [] e = refl
keyed_not key (x ∷ xs) e = by (is_same x.key key) e (keyed_not key xs)
  where
    by : (b : Bool) → cond b (Some x) (find (is_of key) xs) ≡ None → (find (is_of key) xs ≡ None → keyed key xs ≡ 0) → bit b + keyed key xs ≡ 0
    by true f rest = absurd (cc)
    by false f rest = omega (arith, rest f)

keyed_staying : (m : ManagerKind) (key : Key) (items : List QueueItem) → keyed key (staying m items) ≤ keyed key items
keyed_staying m key [] = by m
  where
    by : (m : ManagerKind) → keyed key (staying m []) ≤ 0
    by Independent = omega arith
    by Dependent = omega arith
keyed_staying Independent key (x ∷ xs) = by (not (is_complete x)) (keyed_staying Independent key xs)
  where
    by : (b : Bool) → keyed key (staying Independent xs) ≤ keyed key xs → keyed key (cond b (x ∷ staying Independent xs) (staying Independent xs)) ≤ bit (is_same x.key key) + keyed key xs
    by true h = omega (arith, h)
    by false h = omega (arith, h)
keyed_staying Dependent key (x ∷ xs) = by (is_complete x) (keyed_staying Dependent key xs)
  where
    by : (b : Bool) → keyed key (rest_of xs) ≤ keyed key xs → keyed key (cond b (rest_of xs) (x ∷ xs)) ≤ bit (is_same x.key key) + keyed key xs
    by true h = omega (arith, h)
    by false h = omega arith

-- ---- a build set that begins

place_none : (new : QueueItem) (items : List QueueItem) → keyed new.key items ≡ 0 → map (in_place new) items ≡ items
place_none new [] e = refl
place_none new (x ∷ xs) e = by (is_same x.key new.key) e (place_none new xs)
  where
    by : (b : Bool) → bit b + keyed new.key xs ≡ 0 → (keyed new.key xs ≡ 0 → map (in_place new) xs ≡ xs) → cond b new x ∷ map (in_place new) xs ≡ x ∷ xs
    by true f rest = absurd (omega (arith, f))
    by false f rest = ap (λ ys. x ∷ ys) (rest (omega (arith, f)))

none_of_key : (key : Key) (items : List QueueItem) → keyed key items ≡ 0 → list_any (is_of key) items ≡ false
none_of_key key [] e = refl
none_of_key key (x ∷ xs) e = by (is_same x.key key) e (none_of_key key xs)
  where
    by : (b : Bool) → bit b + keyed key xs ≡ 0 → (keyed key xs ≡ 0 → list_any (is_of key) xs ≡ false) → (b || list_any (is_of key) xs) ≡ false
    by true f rest = absurd (omega (arith, f))
    by false f rest = rest (omega (arith, f))

or_true : (b : Bool) → (b || true) ≡ true
or_true true = refl
or_true false = refl

some_of_key : (key : Key) (xs ys : List QueueItem) (x : QueueItem) → is_same x.key key ≡ true → list_any (is_of key) (xs ++ x ∷ ys) ≡ true
some_of_key key [] ys x same = ap (λ (b : Bool). b || list_any (is_of key) ys) same
some_of_key key (y ∷ xs) ys x same = ap (λ (b : Bool). is_same y.key key || b) (some_of_key key xs ys x same) ∙ or_true (is_same y.key key)

begun_last : (new : QueueItem) (items : List QueueItem) → keyed new.key items ≡ 0 → with_begun new items ≡ items ++ new ∷ []
begun_last new items e = ap (λ (b : Bool). cond b (map (in_place new) items) (items ++ new ∷ [])) (none_of_key new.key items e)

begun_between : (new x : QueueItem) (xs ys : List QueueItem) → is_same x.key new.key ≡ true → keyed new.key xs ≡ 0 → keyed new.key ys ≡ 0 → with_begun new (xs ++ x ∷ ys) ≡ xs ++ new ∷ ys
begun_between new x xs ys same ahead rest =
    ap (λ (b : Bool). cond b (map (in_place new) (xs ++ x ∷ ys)) ((xs ++ x ∷ ys) ++ new ∷ [])) (some_of_key new.key xs ys x same)
    ∙ map-append (in_place new) xs (x ∷ ys)
    ∙ ap (λ zs. zs ++ in_place new x ∷ map (in_place new) ys) (place_none new xs ahead)
    ∙ ap (λ (b : Bool). xs ++ cond b new x ∷ map (in_place new) ys) same
    ∙ ap (λ zs. xs ++ new ∷ zs) (place_none new ys rest)

abbrev begin_all : List QueueItem → List QueueItem → List QueueItem
begin_all = fold (λ (queue : List QueueItem) (item : QueueItem). with_begun item queue)

-- an item whose jobs have no outcome
abbrev IsOpen : QueueItem → Type 0
IsOpen item = begun_item (build_set item) ≡ item

begins_are : (stamp : Option Stamp) (next : ℕ) (items queue : List QueueItem) → Each IsOpen items → fold queue_after queue (begin_facts stamp next items) ≡ begin_all queue items
begins_are stamp next [] queue opens = refl
begins_are stamp next (item ∷ items) queue opens =
    ap (λ (it : QueueItem). fold queue_after (with_begun it queue) (begin_facts stamp next items)) opens.0 ∙ begins_are stamp next items (with_begun item queue) opens.1

open_again : (jobs : List (List ℕ × Option Bool)) → map {B = List ℕ × Option Bool} (λ (name : List ℕ). (name, None)) (map (λ (job : List ℕ × Option Bool). job.0) (map open_job jobs)) ≡ map open_job jobs
open_again [] = refl
open_again (job ∷ jobs) = ap (λ (rest : List (List ℕ × Option Bool)). (job.0, None) ∷ rest) (open_again jobs)

named_again : (names : List (List ℕ)) → map {B = List ℕ × Option Bool} (λ (name : List ℕ). (name, None)) (map (λ (job : List ℕ × Option Bool). job.0) (map (λ (name : List ℕ). (name, None)) names)) ≡ map (λ (name : List ℕ). (name, None)) names
named_again [] = refl
named_again (name ∷ names) = ap (λ (rest : List (List ℕ × Option Bool)). (name, None) ∷ rest) (named_again names)

abbrev with_jobs : Key → ℤ → ℕ → List (List ℕ × Option Bool) → QueueItem
with_jobs key patchset set jobs = record { key = key; patchset = patchset; set = set; jobs = jobs }

open_with_set : (set : ℕ) (item : QueueItem) → IsOpen (with_set set item)
open_with_set set item = ap (with_jobs item.key item.patchset set) (open_again item.jobs)

open_new : (key : Key) (patchset : ℤ) (set : ℕ) (names : List (List ℕ)) → IsOpen (new_item key patchset set names)
open_new key patchset set names = ap (with_jobs key patchset set) (named_again names)

-- ---- the items behind

abbrev fresh_behind : ManagerKind → ℕ → List QueueItem → List QueueItem
fresh_behind Independent next items = []
fresh_behind Dependent next items = renewed next items

abbrev lost_behind : ManagerKind → List QueueItem → List QueueItem
lost_behind Independent items = []
lost_behind Dependent items = items

abbrev kept_behind : ManagerKind → List QueueItem → List QueueItem
kept_behind Independent items = items
kept_behind Dependent items = []

parts_behind : (m : ManagerKind) (items : List QueueItem) → items ≡ lost_behind m items ++ kept_behind m items
parts_behind Independent items = refl
parts_behind Dependent items = sym (append-nil items)

new_renewed : (k : ℕ) (items : List QueueItem) → sets_of (renewed k items) ≡ range_with_len k (length items)
new_renewed k [] = refl
new_renewed k (item ∷ items) = ap (λ zs. k ∷ zs) (new_renewed (k + 1) items)

new_behind : (m : ManagerKind) (k : ℕ) (items : List QueueItem) → sets_of (fresh_behind m k items) ≡ range_with_len k (sets_behind m items)
new_behind Independent k items = refl
new_behind Dependent k items = new_renewed k items

open_renewed : (k : ℕ) (items : List QueueItem) → Each IsOpen (renewed k items)
open_renewed k [] = tt
open_renewed k (item ∷ items) = (open_with_set k item, open_renewed (k + 1) items)

open_behind : (m : ManagerKind) (k : ℕ) (items : List QueueItem) → Each IsOpen (fresh_behind m k items)
open_behind Independent k items = tt
open_behind Dependent k items = open_renewed k items

times_behind : (m : ManagerKind) (k n : ℕ) (items : List QueueItem) → n < k → times n (behind_it m k items) ≡ times n (kept_behind m items)
times_behind Independent k n items h = refl
times_behind Dependent k n items h = (chunk_renewed k items).low n h

keyed_renewed : (key : Key) (k : ℕ) (items : List QueueItem) → keyed key (renewed k items) ≡ keyed key items
keyed_renewed key k [] = refl
keyed_renewed key k (item ∷ items) = ap (λ n. bit (is_same item.key key) + n) (keyed_renewed key (k + 1) items)

keyed_behind : (m : ManagerKind) (key : Key) (k : ℕ) (items : List QueueItem) → keyed key (behind_it m k items) ≡ keyed key items
keyed_behind Independent key k items = refl
keyed_behind Dependent key k items = keyed_renewed key k items

begin_renewed : (ahead items : List QueueItem) (k : ℕ) → ((key : Key) → keyed key (ahead ++ items) ≤ 1) → begin_all (ahead ++ items) (renewed k items) ≡ ahead ++ renewed k items
begin_renewed ahead [] k keys = refl
begin_renewed ahead (x ∷ items) k keys =
    let new = with_set k x in
    let one : bit (is_same x.key x.key) ≡ 1 = ap bit (same_itself x.key) in
    let none_ahead : keyed x.key ahead ≡ 0 = omega (arith, keyed-append x.key ahead (x ∷ items), keys x.key, one) in
    let none_behind : keyed x.key items ≡ 0 = omega (arith, keyed-append x.key ahead (x ∷ items), keys x.key, one) in
    ap (λ queue. begin_all queue (renewed (k + 1) items)) (begun_between new x ahead items (same_itself x.key) none_ahead none_behind ∙ sym (append_assoc ahead (new ∷ []) items))
    ∙ begin_renewed (ahead ++ new ∷ []) items (k + 1) (λ key. omega (arith, keys key, keyed-append key (ahead ++ new ∷ []) items, keyed-append key ahead (new ∷ []), keyed-append key ahead (x ∷ items)))
    ∙ append_assoc ahead (new ∷ []) (renewed (k + 1) items)

begin_behind : (m : ManagerKind) (ahead items : List QueueItem) (k : ℕ) → ((key : Key) → keyed key (ahead ++ items) ≤ 1) → begin_all (ahead ++ items) (fresh_behind m k items) ≡ ahead ++ behind_it m k items
begin_behind Independent ahead items k keys = refl
begin_behind Dependent ahead items k keys = begin_renewed ahead items k keys

-- ---- build sets that are cancelled, results and reports

ahead_nothing : (sets : List ℕ) (queue : List QueueItem) → fold queue_after queue (map (cancels Ahead) sets) ≡ queue
ahead_nothing [] queue = refl
ahead_nothing (set ∷ sets) queue = ahead_nothing sets queue

result_cancels_nothing : (result : JobResult) (sets : List ℕ) (queue : List QueueItem) → fold queue_after queue (cancel_facts (action.Result result) sets) ≡ queue
result_cancels_nothing result [] queue = refl
result_cancels_nothing result (set ∷ sets) queue = ahead_nothing sets queue

without_none : (n : ℕ) (items : List QueueItem) → times n items ≡ 0 → without n items ≡ items
without_none n [] e = refl
without_none n (x ∷ xs) e = by (nat_eq x.set n) e (without_none n xs)
  where
    by : (b : Bool) → bit b + times n xs ≡ 0 → (times n xs ≡ 0 → without n xs ≡ xs) → cond (not b) (x ∷ without n xs) (without n xs) ≡ x ∷ xs
    by true f rest = absurd (omega (arith, f))
    by false f rest = ap (λ ys. x ∷ ys) (rest (omega (arith, f)))

without_one : (x : QueueItem) (xs ys : List QueueItem) → times x.set xs ≡ 0 → times x.set ys ≡ 0 → without x.set (xs ++ x ∷ ys) ≡ xs ++ ys
without_one x xs ys ahead rest =
    filter-append (λ (item : QueueItem). not (has_set x.set item)) xs (x ∷ ys)
    ∙ ap (λ zs. zs ++ without x.set (x ∷ ys)) (without_none x.set xs ahead)
    ∙ ap (λ (b : Bool). xs ++ cond (not b) (x ∷ without x.set ys) (without x.set ys)) (eq-eqb x.set x.set refl)
    ∙ ap (λ zs. xs ++ zs) (without_none x.set ys rest)

told_none : (result : JobResult) (items : List QueueItem) → times result.set items ≡ 0 → map (with_result result) items ≡ items
told_none result [] e = refl
told_none result (x ∷ xs) e = by (nat_eq x.set result.set) e (told_none result xs)
  where
    by : (b : Bool) → bit b + times result.set xs ≡ 0 → (times result.set xs ≡ 0 → map (with_result result) xs ≡ xs) → cond b (with_outcome result.job result.success x) x ∷ map (with_result result) xs ≡ x ∷ xs
    by true f rest = absurd (omega (arith, f))
    by false f rest = ap (λ ys. x ∷ ys) (rest (omega (arith, f)))

told_one : (result : JobResult) (x : QueueItem) (xs ys : List QueueItem) → has_set result.set x ≡ true → times result.set xs ≡ 0 → times result.set ys ≡ 0 →
    map (with_result result) (xs ++ x ∷ ys) ≡ xs ++ with_outcome result.job result.success x ∷ ys
told_one result x xs ys same ahead rest =
    map-append (with_result result) xs (x ∷ ys)
    ∙ ap (λ zs. zs ++ with_result result x ∷ map (with_result result) ys) (told_none result xs ahead)
    ∙ ap (λ (b : Bool). xs ++ cond b (with_outcome result.job result.success x) x ∷ map (with_result result) ys) same
    ∙ ap (λ zs. xs ++ with_outcome result.job result.success x ∷ zs) (told_none result ys rest)

abbrev leave_all : List QueueItem → List QueueItem → List QueueItem
leave_all = fold (λ (queue : List QueueItem) (item : QueueItem). without item.set queue)

reports_are : (items queue : List QueueItem) → fold queue_after queue (map reports (map report_of items)) ≡ leave_all queue items
reports_are [] queue = refl
reports_are (item ∷ items) queue = reports_are items (without item.set queue)

other_way : (m n : ℕ) (b : Bool) → nat_eq m n ≡ b → bit b ≡ 0 → nat_eq n m ≡ false
other_way m n true e none = absurd (omega (arith, none))
other_way m n false e none = ne_eqb n m (λ same. eqb-false m n e (sym same))

leave_behind : (x : QueueItem) (queue items : List QueueItem) → times x.set items ≡ 0 → leave_all (x ∷ queue) items ≡ x ∷ leave_all queue items
leave_behind x queue [] e = refl
leave_behind x queue (y ∷ items) e =
    let other : nat_eq x.set y.set ≡ false = other_way y.set x.set (nat_eq y.set x.set) refl (omega (arith, e)) in
    ap (λ (b : Bool). leave_all (cond (not b) (x ∷ without y.set queue) (without y.set queue)) items) other ∙ leave_behind x (without y.set queue) items (omega (arith, e))

leaving_one : (x : QueueItem) (xs leave : List QueueItem) → times x.set xs ≡ 0 → leave_all (x ∷ xs) (x ∷ leave) ≡ leave_all xs leave
leaving_one x xs leave e =
    ap (λ (b : Bool). leave_all (cond (not b) (x ∷ without x.set xs) (without x.set xs)) leave) (eq-eqb x.set x.set refl)
    ∙ ap (λ queue. leave_all queue leave) (without_none x.set xs e)

one_itself : (n : ℕ) → once n n ≡ 1
one_itself n = ap bit (eq-eqb n n refl)

leave_staying : (m : ManagerKind) (items : List QueueItem) → ((n : ℕ) → times n items ≤ 1) → leave_all items (leaving m items) ≡ staying m items
leave_staying Independent [] most = refl
leave_staying Dependent [] most = refl
leave_staying Independent (x ∷ xs) most = by (is_complete x) (leave_staying Independent xs (λ n. omega (arith, most n)))
  where
    none_behind : times x.set xs ≡ 0
    none_behind = omega (arith, most x.set, one_itself x.set)

    by : (b : Bool) → leave_all xs (filter is_complete xs) ≡ staying Independent xs →
        leave_all (x ∷ xs) (cond b (x ∷ filter is_complete xs) (filter is_complete xs)) ≡ cond (not b) (x ∷ staying Independent xs) (staying Independent xs)
    by true rest = leaving_one x xs (filter is_complete xs) none_behind ∙ rest
    by false rest = leave_behind x xs (filter is_complete xs) (omega (arith, none_behind, times_leaving Independent x.set xs)) ∙ ap (λ zs. x ∷ zs) rest
leave_staying Dependent (x ∷ xs) most = by (is_complete x) (leave_staying Dependent xs (λ n. omega (arith, most n)))
  where
    none_behind : times x.set xs ≡ 0
    none_behind = omega (arith, most x.set, one_itself x.set)

    by : (b : Bool) → leave_all xs (head_of xs) ≡ rest_of xs → leave_all (x ∷ xs) (cond b (x ∷ head_of xs) []) ≡ cond b (rest_of xs) (x ∷ xs)
    by true rest = leaving_one x xs (head_of xs) none_behind ∙ rest
    by false rest = refl

-- ---- an item among others

abbrev In : QueueItem → List QueueItem → Type 0
In x [] = ⊥
In x (y ∷ ys) = (x ≡ y) ⊎ In x ys

in_left : (x : QueueItem) (xs ys : List QueueItem) → In x xs → In x (xs ++ ys)
in_left x [] ys there = absurd there
in_left x (y ∷ xs) ys (inl e) = inl e
in_left x (y ∷ xs) ys (inr there) = inr (in_left x xs ys there)

in_right : (x : QueueItem) (xs ys : List QueueItem) → In x ys → In x (xs ++ ys)
in_right x [] ys there = there
in_right x (y ∷ xs) ys there = inr (in_right x xs ys there)

abbrev AllIn : List QueueItem → List QueueItem → Type 0
AllIn xs items = Each (λ (x : QueueItem). In x items) xs

all_more : (y : QueueItem) (xs items : List QueueItem) → AllIn xs items → AllIn xs (y ∷ items)
all_more y xs items all = each_map (λ (x : QueueItem). In x items) (λ (x : QueueItem). In x (y ∷ items)) (λ x there. inr there) xs all

all_themselves : (xs : List QueueItem) → AllIn xs xs
all_themselves [] = tt
all_themselves (x ∷ xs) = (inl refl, all_more x xs xs (all_themselves xs))

all_left : (xs items more : List QueueItem) → AllIn xs items → AllIn xs (items ++ more)
all_left xs items more all = each_map (λ (x : QueueItem). In x items) (λ (x : QueueItem). In x (items ++ more)) (λ x there. in_left x items more there) xs all

all_right : (xs front items : List QueueItem) → AllIn xs items → AllIn xs (front ++ items)
all_right xs front items all = each_map (λ (x : QueueItem). In x items) (λ (x : QueueItem). In x (front ++ items)) (λ x there. in_right x front items there) xs all

all_behind : (m : ManagerKind) (k : ℕ) (items : List QueueItem) → AllIn (fresh_behind m k items) (behind_it m k items)
all_behind Independent k items = tt
all_behind Dependent k items = all_themselves (renewed k items)

each_in : (P : QueueItem → Type 0) (items : List QueueItem) (x : QueueItem) → Each P items → In x items → P x
each_in P [] x all there = absurd there
each_in P (y ∷ ys) x all (inl e) = subst P (sym e) all.0
each_in P (y ∷ ys) x all (inr there) = each_in P ys x all.1 there

in_times : (x : QueueItem) (items : List QueueItem) → In x items → 1 ≤ times x.set items
in_times x [] there = absurd there
in_times x (y ∷ ys) (inl e) = let one : once x.set y.set ≡ 1 = ap (λ (z : QueueItem). once x.set z.set) (sym e) ∙ one_itself x.set in omega (arith, one)
in_times x (y ∷ ys) (inr there) = omega (arith, in_times x ys there)

find_in : (x : QueueItem) (items : List QueueItem) → times x.set items ≤ 1 → In x items → find (has_set x.set) items ≡ Some x
find_in x [] most there = absurd there
find_in x (y ∷ ys) most (inl e) =
    ap (λ (b : Bool). cond b (Some y) (find (has_set x.set) ys)) (ap (λ (z : QueueItem). nat_eq z.set x.set) (sym e) ∙ eq-eqb x.set x.set refl) ∙ ap (λ (z : QueueItem). Some z) (sym e)
find_in x (y ∷ ys) most (inr there) = by (nat_eq y.set x.set) most (find_in x ys (omega (arith, most)) there)
  where
    by : (b : Bool) → bit b + times x.set ys ≤ 1 → find (has_set x.set) ys ≡ Some x → cond b (Some y) (find (has_set x.set) ys) ≡ Some x
    by true few rest = absurd (omega (arith, few, in_times x ys there))
    by false few rest = rest

staying_in : (m : ManagerKind) (x : QueueItem) (items : List QueueItem) → Waits x → In x items → In x (staying m items)
staying_in m x [] waits there = absurd there
staying_in Independent x (y ∷ ys) waits (inl e) =
    let opens : is_complete y ≡ false = ap is_complete (sym e) ∙ waits in
    subst (λ (b : Bool). In x (cond (not b) (y ∷ staying Independent ys) (staying Independent ys))) (sym opens) (inl e)
staying_in Independent x (y ∷ ys) waits (inr there) = by (not (is_complete y)) (staying_in Independent x ys waits there)
  where
    by : (b : Bool) → In x (staying Independent ys) → In x (cond b (y ∷ staying Independent ys) (staying Independent ys))
    by true rest = inr rest
    by false rest = rest
staying_in Dependent x (y ∷ ys) waits (inl e) =
    let opens : is_complete y ≡ false = ap is_complete (sym e) ∙ waits in
    subst (λ (b : Bool). In x (cond b (rest_of ys) (y ∷ ys))) (sym opens) (inl e)
staying_in Dependent x (y ∷ ys) waits (inr there) = by (is_complete y) (staying_in Dependent x ys waits there)
  where
    by : (b : Bool) → In x (rest_of ys) → In x (cond b (rest_of ys) (y ∷ ys))
    by true rest = rest
    by false rest = inr there

-- ---- the build sets that begin

numbered_are : (items : List QueueItem) (k m : ℕ) (fresh : List QueueItem) → sets_of fresh ≡ range_with_len k m → Each (λ (x : QueueItem). find (has_set x.set) items ≡ Some x) fresh →
    filter_map (λ set. find (has_set set) items) (range_with_len k m) ≡ fresh
numbered_are items k zero [] e found = refl
numbered_are items k (suc m) [] e found = absurd (cc)
numbered_are items k zero (x ∷ fresh) e found = absurd (cc)
numbered_are items k (suc m) (x ∷ fresh) e found =
    let own : x.set ≡ k = ap (λ ns. get_or ns 0 0) e in
    let rest : sets_of fresh ≡ range_with_len (k + 1) m = ap (drop 1) e in
    let first : find (has_set k) items ≡ Some x = subst (λ n. find (has_set n) items ≡ Some x) own found.0 in
    ap (λ (o : Option QueueItem). cons_option o (filter_map (λ set. find (has_set set) items) (range_with_len (k + 1) m))) first
    ∙ ap (λ xs. x ∷ xs) (numbered_are items (k + 1) m fresh rest found.1)

-- the build sets of a range are none below its beginning
high_sets : (k m : ℕ) (fresh : List QueueItem) → sets_of fresh ≡ range_with_len k m → Each (λ (x : QueueItem). k ≤ x.set) fresh
high_sets k m [] e = tt
high_sets k zero (x ∷ fresh) e = absurd (cc)
high_sets k (suc m) (x ∷ fresh) e =
    let own : x.set ≡ k = ap (λ ns. get_or ns 0 0) e in
    let more = high_sets (k + 1) m fresh (ap (drop 1) e) in
    (omega (arith, own), each_map (λ (y : QueueItem). k + 1 ≤ y.set) (λ (y : QueueItem). k ≤ y.set) (λ y h. omega (arith, h)) fresh more)

-- what has a new build set waits
new_wait : (next : ℕ) (fresh : List QueueItem) → Each (λ (x : QueueItem). next ≤ x.set) fresh → Each (Fits next) fresh → Each Waits fresh
new_wait next [] high fit = tt
new_wait next (x ∷ fresh) high fit = (by (is_complete x) refl, new_wait next fresh high.1 fit.1)
  where
    by : (b : Bool) → is_complete x ≡ b → is_complete x ≡ false
    by true complete = absurd (omega (arith, high.0, fit.0.1 complete))
    by false waits = waits

all_fit : (next : ℕ) (xs items : List QueueItem) → AllIn xs items → Each (Fits next) items → Each (Fits next) xs
all_fit next [] items all fit = tt
all_fit next (x ∷ xs) items all fit = (each_in (Fits next) items x fit all.0, all_fit next xs items all.1 fit)

range_last : (k n : ℕ) → range_with_len k n ++ (k + n) ∷ [] ≡ range_with_len k (n + 1)
range_last k zero = let same : k + 0 ≡ k = omega arith in ap (λ m. m ∷ []) same
range_last k (suc n) =
    let same : k + suc n ≡ (k + 1) + n = omega arith in
    let more : suc (n + 1) ≡ suc n + 1 = omega arith in
    ap (λ m. k ∷ range_with_len (k + 1) n ++ m ∷ []) same ∙ ap (λ zs. k ∷ zs) (range_last (k + 1) n) ∙ ap (range_with_len k) more

-- ---- what an action makes of the queue

record Turn (s : State) (a : Action) (items : List QueueItem) (sets : ℕ) : Type 0 where
  pub ahead : List QueueItem
  pub lost : List QueueItem
  pub others : List QueueItem
  pub fresh : List QueueItem
  pub old : s.items ≡ ahead ++ (lost ++ others)
  pub keeps : (n : ℕ) → n < s.next → times n items ≡ times n ahead + times n others
  pub new : sets_of fresh ≡ range_with_len s.next sets
  pub opens : Each IsOpen fresh
  pub there : AllIn fresh items
  pub leads : begin_all (fold queue_after (fold queue_after s.items (result_facts a)) (cancel_facts a (sets_of lost))) fresh ≡ items
  pub keys : (key : Key) → keyed key items ≤ 1

abbrev HasTurn : State → Action → Plan → Type 0
HasTurn s a (Refuses why) = Unit {0}
HasTurn s a (Makes items sets) = Turn s a items sets

module _ (s : State) (well : Well s) (keys : (key : Key) → keyed key s.items ≤ 1) where
  abbrev manager : ManagerKind
  manager = s.manager

  abbrev next : ℕ
  next = s.next

  either : (a : Action) (b : Bool) (p q : Plan) → HasTurn s a p → HasTurn s a q → HasTurn s a (cond b p q)
  either a true p q h k = h
  either a false p q h k = k

  not_next : (n set : ℕ) → n < next → next ≤ set → once n set ≡ 0
  not_next n set h le = once_other n set (λ e. omega (arith, e, h, le))

  -- around an item that is found
  module _ (test : QueueItem → Bool) (item : QueueItem) (found : find test s.items ≡ Some item) where
    abbrev front : List QueueItem
    front = before test s.items

    abbrev rest : List QueueItem
    rest = behind test s.items

    split : s.items ≡ front ++ item ∷ rest
    split = split_at test s.items item found

    own_ahead : times item.set front ≡ 0
    own_ahead = omega (arith, times_split item.set test s.items item found, well.sound.most item.set, one_itself item.set)

    own_rest : times item.set rest ≡ 0
    own_rest = omega (arith, times_split item.set test s.items item found, well.sound.most item.set, one_itself item.set)

    keyed_split : (key : Key) → keyed key s.items ≡ keyed key front + (bit (is_same item.key key) + keyed key rest)
    keyed_split key = ap (keyed key) split ∙ keyed-append key front (item ∷ rest)

    key_ahead : keyed item.key front ≡ 0
    key_ahead = let one : bit (is_same item.key item.key) ≡ 1 = ap bit (same_itself item.key) in omega (arith, keyed_split item.key, keys item.key, one)

    key_rest : keyed item.key rest ≡ 0
    key_rest = let one : bit (is_same item.key item.key) ≡ 1 = ap bit (same_itself item.key) in omega (arith, keyed_split item.key, keys item.key, one)

    leaves : without item.set s.items ≡ front ++ rest
    leaves = ap (without item.set) split ∙ without_one item front rest own_ahead own_rest

    old_parts : s.items ≡ front ++ (item ∷ lost_behind manager rest ++ kept_behind manager rest)
    old_parts = split ∙ ap (λ xs. front ++ item ∷ xs) (parts_behind manager rest)

    left_keys : (key : Key) → keyed key (front ++ rest) ≤ 1
    left_keys key = omega (arith, keyed-append key front rest, keyed_split key, keys key)

    -- the keys of the items in which another stands for the item
    same_keys : (other : QueueItem) → other.key ≡ item.key → (k : ℕ) (key : Key) → keyed key (front ++ other ∷ behind_it manager k rest) ≤ 1
    same_keys other e k key =
        let one : bit (is_same other.key key) ≡ bit (is_same item.key key) = ap (λ (own : Key). bit (is_same own key)) e in
        omega (arith, keyed-append key front (other ∷ behind_it manager k rest), keyed_behind manager key k rest, one, keyed_split key, keys key)

    first_keys : (other : QueueItem) → other.key ≡ item.key → (key : Key) → keyed key ((front ++ other ∷ []) ++ rest) ≤ 1
    first_keys other e key =
        let one : bit (is_same other.key key) ≡ bit (is_same item.key key) = ap (λ (own : Key). bit (is_same own key)) e in
        omega (arith, keyed-append key (front ++ other ∷ []) rest, keyed-append key front (other ∷ []), one, keyed_split key, keys key)

    -- another in the item's place, and then those that begin behind it
    led_behind : (other : QueueItem) → other.key ≡ item.key → (k : ℕ) → begin_all (front ++ other ∷ rest) (fresh_behind manager k rest) ≡ front ++ other ∷ behind_it manager k rest
    led_behind other e k =
        ap (λ queue. begin_all queue (fresh_behind manager k rest)) (sym (append_assoc front (other ∷ []) rest))
        ∙ begin_behind manager (front ++ other ∷ []) rest k (first_keys other e)
        ∙ append_assoc front (other ∷ []) (behind_it manager k rest)

    dequeue_turn : (key : Key) → Turn s (action.Manage (manage.Dequeue key)) (front ++ behind_it manager next rest) (sets_behind manager rest)
    dequeue_turn key = record {
      ahead = front;
      lost = item ∷ lost_behind manager rest;
      others = kept_behind manager rest;
      fresh = fresh_behind manager next rest;
      old = old_parts;
      keeps = λ n h. omega (arith, times-append n front (behind_it manager next rest), times_behind manager next n rest h);
      new = new_behind manager next rest;
      opens = open_behind manager next rest;
      there = all_right (fresh_behind manager next rest) front (behind_it manager next rest) (all_behind manager next rest);
      leads =
          ap (λ queue. begin_all queue (fresh_behind manager next rest)) (ahead_nothing (sets_of (lost_behind manager rest)) (without item.set s.items) ∙ leaves)
          ∙ begin_behind manager front rest next left_keys;
      keys = λ other. omega (arith, keyed-append other front (behind_it manager next rest), keyed_behind manager other next rest, keyed_split other, keys other);
    }

    abbrev again : QueueItem
    again = with_set next item

    reset_turn : (key : Key) → Turn s (action.Manage (manage.Reset key)) (front ++ again ∷ behind_it manager (next + 1) rest) (sets_behind manager rest + 1)
    reset_turn key =
        let more = fresh_behind manager (next + 1) rest in
        let all = behind_it manager (next + 1) rest in
        record {
          ahead = front;
          lost = item ∷ lost_behind manager rest;
          others = kept_behind manager rest;
          fresh = again ∷ more;
          old = old_parts;
          keeps = λ n h. omega (arith, times-append n front (again ∷ all), times_behind manager (next + 1) n rest (omega (arith, h)), not_next n next h (omega arith));
          new = ap (λ ns. next ∷ ns) (new_behind manager (next + 1) rest) ∙ (let one_more : suc (sets_behind manager rest) ≡ sets_behind manager rest + 1 = omega arith in ap (range_with_len next) one_more);
          opens = (open_with_set next item, open_behind manager (next + 1) rest);
          there = (in_right again front (again ∷ all) (inl refl), all_right more front (again ∷ all) (all_more again more all (all_behind manager (next + 1) rest)));
          leads =
              ap (λ queue. begin_all queue (again ∷ more)) (ahead_nothing (sets_of (lost_behind manager rest)) s.items ∙ split)
              ∙ ap (λ queue. begin_all queue more) (begun_between again item front rest (same_itself item.key) key_ahead key_rest)
              ∙ led_behind again refl (next + 1);
          keys = same_keys again refl (next + 1);
        }

    -- a newer patch set
    module _ (key : Key) (patchset : ℤ) (names : List (List ℕ)) (same : is_same item.key key ≡ true) where
      abbrev newer : QueueItem
      newer = new_item key patchset (next + sets_behind manager rest) names

      abbrev left_over : List QueueItem
      left_over = front ++ behind_it manager next rest

      newer_turn : Turn s (action.Trigger (Some key) patchset names) (left_over ++ newer ∷ []) (sets_behind manager rest + 1)
      newer_turn =
          let more = fresh_behind manager next rest in
          let all = behind_it manager next rest in
          let one : bit (is_same item.key key) ≡ 1 = ap bit same in
          let none : keyed key left_over ≡ 0 = omega (arith, keyed-append key front all, keyed_behind manager key next rest, keyed_split key, keys key, one) in
          record {
            ahead = front;
            lost = item ∷ lost_behind manager rest;
            others = kept_behind manager rest;
            fresh = more ++ newer ∷ [];
            old = old_parts;
            keeps = λ n h. omega (arith, times-append n left_over (newer ∷ []), times-append n front all, times_behind manager next n rest h, not_next n newer.set h (omega arith));
            new = sets-append more (newer ∷ []) ∙ ap (λ ns. ns ++ newer.set ∷ []) (new_behind manager next rest) ∙ range_last next (sets_behind manager rest);
            opens = each_append IsOpen more (newer ∷ []) (open_behind manager next rest) (open_new key patchset newer.set names, tt);
            there = each_append (λ (x : QueueItem). In x (left_over ++ newer ∷ [])) more (newer ∷ []) (all_left more left_over (newer ∷ []) (all_right more front all (all_behind manager next rest))) (in_right newer left_over (newer ∷ []) (inl refl), tt);
            leads =
                ap (λ queue. begin_all queue (more ++ newer ∷ [])) (ahead_nothing (sets_of (lost_behind manager rest)) (without item.set s.items) ∙ leaves)
                ∙ fold-append (λ (queue : List QueueItem) (one : QueueItem). with_begun one queue) (front ++ rest) more (newer ∷ [])
                ∙ ap (with_begun newer) (begin_behind manager front rest next left_keys)
                ∙ begun_last newer left_over none;
            keys = λ other.
                let as_item : bit (is_same key other) ≡ bit (is_same item.key other) = ap bit (sym (same_left item.key key other same)) in
                omega (arith, keyed-append other left_over (newer ∷ []), keyed-append other front all, keyed_behind manager other next rest, as_item, keyed_split other, keys other);
          }

  -- an outcome
  module _ (result : JobResult) (item : QueueItem) (found : find (has_set result.set) s.items ≡ Some item) where
    abbrev test : QueueItem → Bool
    test = has_set result.set

    abbrev told : QueueItem
    told = with_outcome result.job result.success item

    own_set : item.set ≡ result.set
    own_set = eqb-true item.set result.set (found_passes test s.items item found)

    told_queue : map (with_result result) s.items ≡ before test s.items ++ told ∷ behind test s.items
    told_queue =
        ap (map (with_result result)) (split test item found)
        ∙ told_one result item (before test s.items) (behind test s.items) (found_passes test s.items item found)
        (subst (λ n. times n (before test s.items) ≡ 0) own_set (own_ahead test item found)) (subst (λ n. times n (behind test s.items) ≡ 0) own_set (own_rest test item found))

    failed_turn : Turn s (action.Result result) (before test s.items ++ told ∷ behind_it manager next (behind test s.items)) (sets_behind manager (behind test s.items))
    failed_turn =
        let ahead = before test s.items in
        let others = behind test s.items in
        let more = fresh_behind manager next others in
        let all = behind_it manager next others in
        record {
          ahead = ahead ++ item ∷ [];
          lost = lost_behind manager others;
          others = kept_behind manager others;
          fresh = more;
          old = split test item found ∙ sym (append_assoc ahead (item ∷ []) others) ∙ ap (λ xs. (ahead ++ item ∷ []) ++ xs) (parts_behind manager others);
          keeps = λ n h. omega (arith, times-append n ahead (told ∷ all), times-append n ahead (item ∷ []), times_behind manager next n others h);
          new = new_behind manager next others;
          opens = open_behind manager next others;
          there = all_right more ahead (told ∷ all) (all_more told more all (all_behind manager next others));
          leads =
              ap (λ queue. begin_all queue more) (result_cancels_nothing result (sets_of (lost_behind manager others)) (map (with_result result) s.items) ∙ told_queue)
              ∙ led_behind test item found told refl next;
          keys = same_keys test item found told refl next;
        }

    succeeded_turn : Turn s (action.Result result) (before test s.items ++ told ∷ behind test s.items) 0
    succeeded_turn =
        let ahead = before test s.items in
        let others = behind test s.items in
        record {
          ahead = s.items;
          lost = [];
          others = [];
          fresh = [];
          old = sym (append-nil s.items);
          keeps = λ n h. omega (arith, times-append n ahead (told ∷ others), times_split n test s.items item found);
          new = refl;
          opens = tt;
          there = tt;
          leads = told_queue;
          keys = λ key. omega (arith, keyed-append key ahead (told ∷ others), keyed_split test item found key, keys key);
        }

  first_turn : (key : Key) (patchset : ℤ) (names : List (List ℕ)) → find (is_of key) s.items ≡ None → Turn s (action.Trigger (Some key) patchset names) (s.items ++ new_item key patchset next names ∷ []) 1
  first_turn key patchset names e =
      let new = new_item key patchset next names in
      record {
        ahead = s.items;
        lost = [];
        others = [];
        fresh = new ∷ [];
        old = sym (append-nil s.items);
        keeps = λ n h. omega (arith, times-append n s.items (new ∷ []), not_next n next h (omega arith));
        new = refl;
        opens = (open_new key patchset next names, tt);
        there = (in_right new s.items (new ∷ []) (inl refl), tt);
        leads = begun_last new s.items (keyed_not key s.items e);
        keys = λ other. few other (is_same key other) refl;
      }
    where
      few : (other : Key) (b : Bool) → is_same key other ≡ b → keyed other (s.items ++ new_item key patchset next names ∷ []) ≤ 1
      few other true same =
          let one : bit (is_same key other) ≡ 1 = ap bit same in
          let none : keyed other s.items ≡ 0 = keyed_same other s.items same ∙ keyed_not key s.items e in
          omega (arith, keyed-append other s.items (new_item key patchset next names ∷ []), one, none)
        where
          keyed_same : (other : Key) (items : List QueueItem) → is_same key other ≡ true → keyed other items ≡ keyed key items
          keyed_same other [] same = refl
          keyed_same other (x ∷ xs) same =
              let one : bit (is_same x.key other) ≡ bit (is_same x.key key) = ap bit (tied key other x.key (sym (same_by_cmp key other) ∙ same)) in
              omega (arith, one, keyed_same other xs same)
      few other false same = let zero : bit (is_same key other) ≡ 0 = ap bit same in omega (arith, keyed-append other s.items (new_item key patchset next names ∷ []), zero, keys other)

  -- ---- each action

  of_placing : (key : Key) (patchset : ℤ) (names : List (List ℕ)) (o : Option QueueItem) → find (is_of key) s.items ≡ o → HasTurn s (action.Trigger (Some key) patchset names) (placing s key patchset names o)
  of_placing key patchset names None e = first_turn key patchset names e
  of_placing key patchset names (Some item) e =
      let a = action.Trigger (Some key) patchset names in
      either a (int_eq patchset item.patchset) _ _ tt
      (either a (int_lt patchset item.patchset) _ _ tt
      (newer_turn (is_of key) item e key patchset names (found_passes (is_of key) s.items item e)))

  of_trigger : (key : Option Key) (patchset : ℤ) (names : List (List ℕ)) → HasTurn s (action.Trigger key patchset names) (triggered s key patchset names)
  of_trigger None patchset names = tt
  of_trigger (Some key) patchset [] = tt
  of_trigger (Some key) patchset (name ∷ names) = of_placing key patchset (name ∷ names) (find (is_of key) s.items) refl

  of_job : (result : JobResult) (item : QueueItem) (o : Option (List ℕ × Option Bool)) → find (has_set result.set) s.items ≡ Some item → HasTurn s (action.Result result) (ended s result item o)
  of_job result item None e = tt
  of_job result item (Some (name, Some success)) e = tt
  of_job result item (Some (name, None)) e = either (action.Result result) (is_first_failure result.success item) _ _ (failed_turn result item e) (succeeded_turn result item e)

  of_result : (result : JobResult) (o : Option QueueItem) → find (has_set result.set) s.items ≡ o → HasTurn s (action.Result result) (resulted s result o)
  of_result result None e = tt
  of_result result (Some item) e = of_job result item (find (is_job result.job) item.jobs) e

  of_dequeue : (key : Key) (o : Option QueueItem) → find (is_of key) s.items ≡ o → HasTurn s (action.Manage (manage.Dequeue key)) (dequeued s key o)
  of_dequeue key None e = tt
  of_dequeue key (Some item) e = dequeue_turn (is_of key) item e key

  of_reset : (key : Key) (o : Option QueueItem) → find (is_of key) s.items ≡ o → HasTurn s (action.Manage (manage.Reset key)) (reset s key o)
  of_reset key None e = tt
  of_reset key (Some item) e = reset_turn (is_of key) item e key

  has_turn : (a : Action) → HasTurn s a (plan s a)
  has_turn (action.Trigger key patchset names) = of_trigger key patchset names
  has_turn (action.Result result) = of_result result (find (has_set result.set) s.items) refl
  has_turn (action.Manage (manage.Dequeue key)) = of_dequeue key (find (is_of key) s.items) refl
  has_turn (action.Manage (manage.Reset key)) = of_reset key (find (is_of key) s.items) refl

-- ---- the facts of an action

-- these have no report
results_report_none : (a : Action) → filter_map reported_by (result_facts a) ≡ []
results_report_none (action.Trigger key patchset jobs) = refl
results_report_none (action.Result result) = refl
results_report_none (action.Manage manage) = refl

ahead_report_none : (sets : List ℕ) → filter_map reported_by (map (cancels Ahead) sets) ≡ []
ahead_report_none [] = refl
ahead_report_none (set ∷ sets) = ahead_report_none sets

cancels_report_none : (a : Action) (sets : List ℕ) → filter_map reported_by (cancel_facts a sets) ≡ []
cancels_report_none a [] = refl
cancels_report_none a (set ∷ sets) = ahead_report_none sets

begins_report_none : (stamp : Option Stamp) (from : ℕ) (items : List QueueItem) → filter_map reported_by (begin_facts stamp from items) ≡ []
begins_report_none stamp from [] = refl
begins_report_none stamp from (item ∷ items) = begins_report_none stamp from items

reports_reported : (all : List Report) → filter_map reported_by (map reports all) ≡ all
reports_reported [] = refl
reports_reported (report ∷ all) = ap (λ rest. report ∷ rest) (reports_reported all)

-- what is chosen stands between what isn't
chosen_between : (f : ℕ → Bool) (xs ys zs : List ℕ) → ((n : ℕ) → 1 ≤ count n xs → f n ≡ false) → ((n : ℕ) → 1 ≤ count n ys → f n ≡ true) → ((n : ℕ) → 1 ≤ count n zs → f n ≡ false) →
    filter f (xs ++ (ys ++ zs)) ≡ ys
chosen_between f xs ys zs before it behind =
    filter-append f xs (ys ++ zs) ∙ (λ i. none_chosen f xs before i ++ filter-append f ys zs i) ∙ (λ i. all_chosen f ys it i ++ none_chosen f zs behind i) ∙ append-nil ys

-- the number of an item was given out
handed : (s : State) → Well s → (n : ℕ) → 1 ≤ times n s.items → n < s.next
handed s well n some = by (nat_lt n s.next) (ltb-true n s.next) (ltb-false n s.next)
  where
    by : (b : Bool) → (b ≡ true → n < s.next) → (b ≡ false → s.next ≤ n) → n < s.next
    by true low high = low refl
    by false low high = absurd (omega (arith, some, well.sound.high n (high refl)))

module _ (s : State) (well : Well s) (a : Action) (stamp : Option Stamp) where
  module _ (items : List QueueItem) (sets : ℕ) (turn : Turn s a items sets) (grows : Fresh s.next s.items items sets) (fit : Each (Fits s.next) items) where
    abbrev left : State
    left = made_by s items sets

    sound_items : Sound (s.next + sets) items
    sound_items = grows.sound well.sound

    sound_left : Sound left.next left.items
    sound_left = fewer_sound s items sets sound_items

    waits : Each Waits turn.fresh
    waits = new_wait s.next turn.fresh (high_sets s.next sets turn.fresh turn.new) (all_fit s.next turn.fresh items turn.there fit)

    found_all : (xs : List QueueItem) → AllIn xs items → Each Waits xs → Each (λ (x : QueueItem). find (has_set x.set) left.items ≡ Some x) xs
    found_all [] there wait = tt
    found_all (x ∷ xs) there wait = (find_in x left.items (sound_left.most x.set) (staying_in s.manager x items wait.0 there.0), found_all xs there.1 wait.1)

    begun_is : begun s left ≡ turn.fresh
    begun_is =
        (let same : left.next - s.next ≡ sets = omega arith in ap (λ n. filter_map (λ set. find (has_set set) left.items) (range_with_len s.next n)) same)
        ∙ numbered_are left.items s.next sets turn.fresh turn.new (found_all turn.fresh turn.there waits)

    reported_is : reported s left ≡ map report_of (leaving s.manager items)
    reported_is = drop_front s.reported (map report_of (leaving s.manager items))

    all_count : (n : ℕ) → count n (reported_sets (reported s left)) + times n left.items ≡ times n items
    all_count n =
        let leave : count n (reported_sets (reported s left)) ≡ times n (leaving s.manager items) = ap (λ (rs : List Report). count n (reported_sets rs)) reported_is ∙ count_reports n (leaving s.manager items) in
        omega (arith, leave, times_leaving s.manager n items)

    old_count : (n : ℕ) → times n s.items ≡ times n turn.ahead + (times n turn.lost + times n turn.others)
    old_count n = ap (times n) turn.old ∙ times-append n turn.ahead (turn.lost ++ turn.others) ∙ ap (λ k. times n turn.ahead + k) (times-append n turn.lost turn.others)

    -- a build set that an item has again, or that is reported, isn't lost
    stays : (n : ℕ) → 1 ≤ times n turn.ahead + times n turn.others → is_lost s left n ≡ false
    stays n h = by (is_current left n) (has_report (reported s left) n) (times_none n left.items) (reported_none n (reported s left))
      where
        by : (c r : Bool) → (c ≡ false → times n left.items ≡ 0) → (r ≡ false → count n (reported_sets (reported s left)) ≡ 0) → (not c && not r) ≡ false
        by true r none silent = refl
        by false true none silent = refl
        by false false none silent = absurd (omega (arith, h, none refl, silent refl, all_count n, turn.keeps n (handed s well n (omega (arith, h, old_count n)))))

    gone : (n : ℕ) → 1 ≤ times n turn.lost → is_lost s left n ≡ true
    gone n h =
        let nowhere : times n items ≡ 0 = omega (arith, h, old_count n, well.sound.most n, turn.keeps n (handed s well n (omega (arith, h, old_count n)))) in
        both_false (is_current left n) (has_report (reported s left) n)
        (none_times n left.items (omega (arith, nowhere, all_count n))) (none_reported n (reported s left) (omega (arith, nowhere, all_count n)))

    cancelled_is : sets_of (cancelled s left) ≡ sets_of turn.lost
    cancelled_is =
        let parts = ap sets_of turn.old ∙ sets-append turn.ahead (turn.lost ++ turn.others) ∙ ap (λ ns. sets_of turn.ahead ++ ns) (sets-append turn.lost turn.others) in
        sets_chosen (is_lost s left) s.items
        ∙ ap (filter (is_lost s left)) parts
        ∙ chosen_between (is_lost s left) (sets_of turn.ahead) (sets_of turn.lost) (sets_of turn.others)
        (λ n h. stays n (omega (arith, h, count_sets n turn.ahead))) (λ n h. gone n (omega (arith, h, count_sets n turn.lost))) (λ n h. stays n (omega (arith, h, count_sets n turn.others)))

    abbrev first : List Fact
    first = result_facts a

    abbrev second : List Fact
    second = cancel_facts a (sets_of (cancelled s left))

    abbrev third : List Fact
    third = begin_facts stamp left.next (begun s left)

    abbrev last : List Fact
    last = map reports (reported s left)

    queue_told : fold queue_after s.items (facts_of s stamp a Applied left) ≡ left.items
    queue_told =
        fold-append queue_after s.items first (second ++ (third ++ last))
        ∙ fold-append queue_after (fold queue_after s.items first) second (third ++ last)
        ∙ fold-append queue_after (fold queue_after (fold queue_after s.items first) second) third last
        ∙ (λ i. fold queue_after (fold queue_after (fold queue_after (fold queue_after s.items first) (cancel_facts a (cancelled_is i))) (begin_facts stamp left.next (begun_is i))) (map reports (reported_is i)))
        ∙ ap (λ queue. fold queue_after queue (map reports (map report_of (leaving s.manager items))))
        (begins_are stamp left.next turn.fresh (fold queue_after (fold queue_after s.items first) (cancel_facts a (sets_of turn.lost))) turn.opens ∙ turn.leads)
        ∙ reports_are (leaving s.manager items) items
        ∙ leave_staying s.manager items sound_items.most

    reports_told : filter_map reported_by (facts_of s stamp a Applied left) ≡ reported s left
    reports_told =
        filter_map-append reported_by first (second ++ (third ++ last))
        ∙ (λ i. results_report_none a i ++ filter_map-append reported_by second (third ++ last) i)
        ∙ (λ i. cancels_report_none a (sets_of (cancelled s left)) i ++ filter_map-append reported_by third last i)
        ∙ (λ i. begins_report_none stamp left.next (begun s left) i ++ reports_reported (reported s left) i)

  -- after the action the facts have told of its queue and its reports, and no key has two items
  record Told (end : State × Outcome) : Type 0 where
    pub queue : fold queue_after s.items (facts_of s stamp a end.1 end.0) ≡ end.0.items
    pub all_reports : s.reported ++ filter_map reported_by (facts_of s stamp a end.1 end.0) ≡ end.0.reported
    pub keys : (key : Key) → keyed key end.0.items ≤ 1

  module _ (keys : (key : Key) → keyed key s.items ≤ 1) where
    told_if : (b : Bool) (items : List QueueItem) (sets : ℕ) → Turn s a items sets → Fresh s.next s.items items sets → Each (Fits s.next) items →
        Told (cond {A = State × Outcome} b (made_by s items sets, Applied) (s, Discarded Numbers))
    told_if true items sets turn grows fit = record {
      queue = queue_told items sets turn grows fit;
      all_reports = ap (λ (rs : List Report). s.reported ++ rs) (reports_told items sets turn grows fit ∙ reported_is items sets turn grows fit);
      keys = λ key. omega (arith, keyed_staying s.manager key items, turn.keys key);
    }
    told_if false items sets turn grows fit = record { queue = refl; all_reports = append-nil s.reported; keys = keys }

    told_by : (p : Plan) → HasTurn s a p → FreshPlan s p → FitsPlan s.next p → Told (after_plan s p)
    told_by (Refuses why) turn grows fit = record { queue = refl; all_reports = append-nil s.reported; keys = keys }
    told_by (Makes items sets) turn grows fit = told_if (nat_lt (s.next + sets) (2 ^ 64)) items sets turn grows fit

    told_of : Told (apply s a)
    told_of = told_by (plan s a) (has_turn s well keys a) (fresh_plan s a) (fits_plan s a well.sound well.jobs)

-- ---- actions, one after another

record AllTold (s : State) (told : List (Option Stamp × Action)) : Type 0 where
  pub queue : fold queue_after s.items (facts_after s told) ≡ (after s (actions_of told)).items
  pub all_reports : s.reported ++ filter_map reported_by (facts_after s told) ≡ (after s (actions_of told)).reported

told_all : (s : State) → Well s → ((key : Key) → keyed key s.items ≤ 1) → (told : List (Option Stamp × Action)) → AllTold s told
told_all s well keys [] = record { queue = refl; all_reports = append-nil s.reported }
told_all s well keys ((stamp, a) ∷ told) =
    let end = apply s a in
    let own = facts_of s stamp a end.1 end.0 in
    let more = facts_after end.0 told in
    let one : Told s well a stamp end = told_of s well a stamp keys in
    let rest : AllTold end.0 told = told_all end.0 (well_on s well a) one.keys told in
    record {
      queue = fold-append queue_after s.items own more ∙ ap (λ queue. fold queue_after queue more) one.queue ∙ rest.queue;
      all_reports =
          ap (λ (rs : List Report). s.reported ++ rs) (filter_map-append reported_by own more)
          ∙ sym (append_assoc s.reported (filter_map reported_by own) (filter_map reported_by more))
          ∙ ap (λ (rs : List Report). rs ++ filter_map reported_by more) one.all_reports
          ∙ rest.all_reports;
    }

pub facts_tell_the_queue : FactsTellTheQueue
facts_tell_the_queue = record {
  queue = λ manager told. (told_all (start manager 0) (well_start manager 0) (λ key. omega arith) told).queue;
  reported = λ manager told. (told_all (start manager 0) (well_start manager 0) (λ key. omega arith) told).all_reports;
}
