-- What an action of a dependent pipeline leaves of its build sets, from front to back.
use Rattle.std.proofs.Common.{◌≡◌, ◌∙◌, ◌+◌, ◌-◌, ◌<◌, ◌≤◌, ℕ, ℤ, List, [], ◌∷◌, ◌++◌, Bool, true, false, cond, Option, Some, None, length, map, nat_lt, refl, sym, ap, arith, subst, suc, zero, append-nil, append_assoc}
use Rattle.std.specs.Prelude.{◌&&◌, ◌^◌, get_or, drop, int_lt, not, option_map, slice_get, unwrap_or}
use Rattle.std.specs.List.{filter, find, range_with_len}
use Rattle.std.specs.Ordering.{int_eq}
use Rattle.std.proofs.lemmas.Bool.{eq-eqb, ltb-true, ltb-false}
use Rattle.std.proofs.lemmas.List.Elements.{filter-append}
use Rattle.gate_record.specs.declared.ids.ManagerKind.{ManagerKind}
use Rattle.gate_record.specs.declared.ids.ManagerKind.TheVariants.{Dependent}
use Rattle.gate_items.specs.declared.action.Action.{Action}
use Rattle.gate_items.specs.declared.action.Action.TheVariants as action
use Rattle.gate_items.specs.declared.action.Manage.TheVariants as manage
use Rattle.gate_items.specs.declared.action.JobResult.{JobResult}
use Rattle.gate_items.specs.declared.action.Discard.{Discard}
use Rattle.gate_items.specs.declared.action.Discard.TheVariants.{Numbers}
use Rattle.gate_items.specs.declared.action.Outcome.{Outcome}
use Rattle.gate_items.specs.declared.action.Outcome.TheVariants.{Applied, Discarded}
use Rattle.gate_items.specs.declared.item.QueueItem.{QueueItem}
use Rattle.gate_items.specs.declared.item.Report.{Report}
use Rattle.gate_items.specs.declared.key.Key.{Key}
use Rattle.gate_items.specs.History.{after, is_current, start}
use Rattle.gate_items.specs.Machine.{Plan, Refuses, Makes, State, after_plan, apply, before, behind, behind_it, dequeued, ended, has_set, head_of, is_complete, is_first_failure, is_job, is_of, leaving, new_item, placing, plan, renewed, report_of, reset, rest_of, resulted, sets_behind, staying, triggered, with_outcome, with_set}
use Rattle.gate_items.specs.Sets.{QueueGoes, QueuesGo, cancelled, has_report, is_lost, key_meant, reported, reported_sets, set_under, sets_of}
use Rattle.gate_items.proofs.Balances.{Well, count, count-append, count_sets, drop_front, none_reported, reported_none}
use Rattle.gate_items.proofs.Begins.{well_after, well_start}
use Rattle.gate_items.proofs.Each.{Each}
use Rattle.gate_items.proofs.Fitting.{Fits, FitsPlan, fits_plan}
use Rattle.gate_items.proofs.Sound.{made_by}
use Rattle.gate_items.proofs.Times.{bit, none_times, once, once_other, times, times_none}

-- ---- lists of build sets

pub sets-append : (xs ys : List QueueItem) → sets_of (xs ++ ys) ≡ sets_of xs ++ sets_of ys
sets-append [] ys = refl
sets-append (x ∷ xs) ys = ap (λ zs. x.set ∷ zs) (sets-append xs ys)

sets_of_reports : (items : List QueueItem) → reported_sets (map report_of items) ≡ sets_of items
sets_of_reports [] = refl
sets_of_reports (item ∷ items) = ap (λ zs. item.set ∷ zs) (sets_of_reports items)

pub sets_chosen : (f : ℕ → Bool) (items : List QueueItem) → sets_of (filter (λ item. f item.set) items) ≡ filter f (sets_of items)
sets_chosen f [] = refl
sets_chosen f (item ∷ items) = by (f item.set) (sets_chosen f items)
  where
    by : (b : Bool) → sets_of (filter (λ item. f item.set) items) ≡ filter f (sets_of items) →
        sets_of (cond b (item ∷ filter (λ item. f item.set) items) (filter (λ item. f item.set) items)) ≡ cond b (item.set ∷ filter f (sets_of items)) (filter f (sets_of items))
    by true e = ap (λ zs. item.set ∷ zs) e
    by false e = e

one_of : (n : ℕ) → once n n ≡ 1
one_of n = ap bit (eq-eqb n n refl)

pub all_chosen : (f : ℕ → Bool) (xs : List ℕ) → ((n : ℕ) → 1 ≤ count n xs → f n ≡ true) → filter f xs ≡ xs
all_chosen f [] all = refl
all_chosen f (x ∷ xs) all =
    ap (λ (b : Bool). cond b (x ∷ filter f xs) (filter f xs)) (all x (omega (arith, one_of x)))
    ∙ ap (λ zs. x ∷ zs) (all_chosen f xs (λ n some. all n (omega (arith, some))))

pub none_chosen : (f : ℕ → Bool) (xs : List ℕ) → ((n : ℕ) → 1 ≤ count n xs → f n ≡ false) → filter f xs ≡ []
none_chosen f [] none = refl
none_chosen f (x ∷ xs) none =
    ap (λ (b : Bool). cond b (x ∷ filter f xs) (filter f xs)) (none x (omega (arith, one_of x)))
    ∙ none_chosen f xs (λ n some. none n (omega (arith, some)))

range_more : (k n : ℕ) → range_with_len k n ++ (k + n) ∷ [] ≡ range_with_len k (suc n)
range_more k zero = let same : k + 0 ≡ k = omega arith in ap (λ m. m ∷ []) same
range_more k (suc n) = let same : k + suc n ≡ (k + 1) + n = omega arith in ap (λ m. k ∷ range_with_len (k + 1) n ++ m ∷ []) same ∙ ap (λ zs. k ∷ zs) (range_more (k + 1) n)

range_last : (k n : ℕ) → range_with_len k n ++ (k + n) ∷ [] ≡ range_with_len k (n + 1)
range_last k n = let same : suc n ≡ n + 1 = omega arith in range_more k n ∙ ap (range_with_len k) same

sets_renewed : (k : ℕ) (items : List QueueItem) → sets_of (renewed k items) ≡ range_with_len k (length items)
sets_renewed k [] = refl
sets_renewed k (item ∷ items) = ap (λ zs. k ∷ zs) (sets_renewed (k + 1) items)

none_below : (k m n : ℕ) → n < k → count n (range_with_len k m) ≡ 0
none_below k zero n h = refl
none_below k (suc m) n h = let other : once n k ≡ 0 = once_other n k (λ e. omega (arith, e, h)) in omega (arith, other, none_below (k + 1) m n (omega (arith, h)))

pub found_passes : (test : QueueItem → Bool) (items : List QueueItem) (item : QueueItem) → find test items ≡ Some item → test item ≡ true
found_passes test [] item e = absurd (cc)
found_passes test (x ∷ xs) item e = by (test x) refl e (found_passes test xs item)
  where
    by : (b : Bool) → test x ≡ b → cond b (Some x) (find test xs) ≡ Some item → (find test xs ≡ Some item → test item ≡ true) → test item ≡ true
    by true t found rest = let same : x ≡ item = ap (λ (o : Option QueueItem). unwrap_or o x) found in ap test (sym same) ∙ t
    by false t found rest = rest found

-- what is found stands between what is before it and what is behind
pub split_at : (test : QueueItem → Bool) (items : List QueueItem) (item : QueueItem) → find test items ≡ Some item → items ≡ before test items ++ item ∷ behind test items
split_at test [] item e = absurd (cc)
split_at test (x ∷ xs) item e = by (test x) (split_at test xs item) e
  where
    by : (b : Bool) → (find test xs ≡ Some item → xs ≡ before test xs ++ item ∷ behind test xs) → cond b (Some x) (find test xs) ≡ Some item →
        x ∷ xs ≡ cond b [] (x ∷ before test xs) ++ item ∷ cond b xs (behind test xs)
    by true rest f = let same : x ≡ item = ap (λ (o : Option QueueItem). unwrap_or o x) f in ap (λ y. y ∷ xs) same
    by false rest f = ap (λ ys. x ∷ ys) (rest f)

-- ---- what leaves the head, where new items stand behind

head_and_rest : (items : List QueueItem) → items ≡ head_of items ++ rest_of items
head_and_rest [] = refl
head_and_rest (item ∷ items) = by (is_complete item) (head_and_rest items)
  where
    by : (b : Bool) → items ≡ head_of items ++ rest_of items → item ∷ items ≡ cond b (item ∷ head_of items) [] ++ cond b (rest_of items) (item ∷ items)
    by true e = ap (λ zs. item ∷ zs) e
    by false e = refl

abbrev pub Waits : QueueItem → Type 0
Waits item = is_complete item ≡ false

head_fresh : (front fresh : List QueueItem) → Each Waits fresh → head_of (front ++ fresh) ≡ head_of front
head_fresh [] [] waits = refl
head_fresh [] (item ∷ fresh) waits = ap (λ (b : Bool). cond b (item ∷ head_of fresh) []) waits.0
head_fresh (item ∷ front) fresh waits = ap (λ xs. cond (is_complete item) (item ∷ xs) []) (head_fresh front fresh waits)

rest_fresh : (front fresh : List QueueItem) → Each Waits fresh → rest_of (front ++ fresh) ≡ rest_of front ++ fresh
rest_fresh [] [] waits = refl
rest_fresh [] (item ∷ fresh) waits = ap (λ (b : Bool). cond b (rest_of fresh) (item ∷ fresh)) waits.0
rest_fresh (item ∷ front) fresh waits = by (is_complete item) (rest_fresh front fresh waits)
  where
    by : (b : Bool) → rest_of (front ++ fresh) ≡ rest_of front ++ fresh → cond b (rest_of (front ++ fresh)) (item ∷ front ++ fresh) ≡ cond b (rest_of front) (item ∷ front) ++ fresh
    by true e = e
    by false e = refl

-- ---- what a plan keeps, makes anew and leaves out

abbrev FirstIs : State → Action → List ℕ → Type 0
FirstIs s a lost = (key : Key) → key_meant a ≡ Some key → set_under s key ≡ slice_get lost 0

pub record Parts (s : State) (a : Action) (items : List QueueItem) (sets : ℕ) : Type 0 where
  pub front : List QueueItem
  pub fresh : List QueueItem
  pub lost : List QueueItem
  pub parts : items ≡ front ++ fresh
  pub old : sets_of s.items ≡ sets_of front ++ sets_of lost
  pub new : sets_of fresh ≡ range_with_len s.next sets
  pub first : FirstIs s a (sets_of lost)

abbrev HasParts : State → Action → Plan → Type 0
HasParts s a (Refuses why) = Unit {0}
HasParts s a (Makes items sets) = Parts s a items sets

module _ (s : State) (queue : s.manager ≡ Dependent) where
  either : (a : Action) (b : Bool) (p q : Plan) → HasParts s a p → HasParts s a q → HasParts s a (cond b p q)
  either a true p q h k = h
  either a false p q h k = k

  split_sets : (test : QueueItem → Bool) (item : QueueItem) → find test s.items ≡ Some item → sets_of s.items ≡ sets_of (before test s.items) ++ (item.set ∷ sets_of (behind test s.items))
  split_sets test item e = ap sets_of (split_at test s.items item e) ∙ sets-append (before test s.items) (item ∷ behind test s.items)

  is_behind : (k : ℕ) (items : List QueueItem) → behind_it s.manager k items ≡ renewed k items
  is_behind k items = ap (λ (m : ManagerKind). behind_it m k items) queue

  are_behind : (items : List QueueItem) → sets_behind s.manager items ≡ length items
  are_behind items = ap (λ (m : ManagerKind). sets_behind m items) queue

  -- the key of the action is the one by which the item is found
  keyed : (a : Action) (key : Key) (item : QueueItem) (rest : List ℕ) → key_meant a ≡ Some key → find (is_of key) s.items ≡ Some item → FirstIs s a (item.set ∷ rest)
  keyed a key item rest is found other e =
      let same : key ≡ other = ap (λ (o : Option Key). unwrap_or o key) (sym is ∙ e) in
      subst (λ k. set_under s k ≡ Some item.set) same (ap (option_map (λ (x : QueueItem). x.set)) found)

  without_parts : (a : Action) (key : Key) (item : QueueItem) → key_meant a ≡ Some key → find (is_of key) s.items ≡ Some item →
      Parts s a (before (is_of key) s.items ++ behind_it s.manager s.next (behind (is_of key) s.items)) (sets_behind s.manager (behind (is_of key) s.items))
  without_parts a key item is found = record {
    front = before (is_of key) s.items;
    fresh = renewed s.next (behind (is_of key) s.items);
    lost = item ∷ behind (is_of key) s.items;
    parts = ap (λ xs. before (is_of key) s.items ++ xs) (is_behind s.next (behind (is_of key) s.items));
    old = split_sets (is_of key) item found;
    new = sets_renewed s.next (behind (is_of key) s.items) ∙ ap (range_with_len s.next) (sym (are_behind (behind (is_of key) s.items)));
    first = keyed a key item (sets_of (behind (is_of key) s.items)) is found;
  }

  of_placing : (key : Key) (patchset : ℤ) (jobs : List (List ℕ)) (o : Option QueueItem) → find (is_of key) s.items ≡ o → HasParts s (action.Trigger (Some key) patchset jobs) (placing s key patchset jobs o)
  of_placing key patchset jobs None e = record {
    front = s.items;
    fresh = new_item key patchset s.next jobs ∷ [];
    lost = [];
    parts = refl;
    old = sym (append-nil (sets_of s.items));
    new = refl;
    first = λ other is. let same : key ≡ other = ap (λ (o : Option Key). unwrap_or o key) is in subst (λ k. set_under s k ≡ None) same (ap (option_map (λ (x : QueueItem). x.set)) e);
  }
  of_placing key patchset jobs (Some item) e =
      let a = action.Trigger (Some key) patchset jobs in
      let without : Parts s a (before (is_of key) s.items ++ behind_it s.manager s.next (behind (is_of key) s.items)) (sets_behind s.manager (behind (is_of key) s.items)) = without_parts a key item refl e in
      let last = new_item key patchset (s.next + sets_behind s.manager (behind (is_of key) s.items)) jobs in
      either a (int_eq patchset item.patchset) _ _ tt
      (either a (int_lt patchset item.patchset) _ _ tt
      (record {
        front = without.front;
        fresh = without.fresh ++ last ∷ [];
        lost = without.lost;
        parts = ap (λ xs. xs ++ last ∷ []) without.parts ∙ append_assoc without.front without.fresh (last ∷ []);
        old = without.old;
        new = sets-append without.fresh (last ∷ []) ∙ ap (λ ns. ns ++ last.set ∷ []) without.new ∙ range_last s.next (sets_behind s.manager (behind (is_of key) s.items));
        first = without.first;
      }))

  of_trigger : (key : Option Key) (patchset : ℤ) (jobs : List (List ℕ)) → HasParts s (action.Trigger key patchset jobs) (triggered s key patchset jobs)
  of_trigger None patchset jobs = tt
  of_trigger (Some key) patchset [] = tt
  of_trigger (Some key) patchset (job ∷ jobs) = of_placing key patchset (job ∷ jobs) (find (is_of key) s.items) refl

  none_meant : (result : JobResult) (lost : List ℕ) → FirstIs s (action.Result result) lost
  none_meant result lost key e = absurd (cc)

  of_job : (result : JobResult) (item : QueueItem) (o : Option (List ℕ × Option Bool)) → find (has_set result.set) s.items ≡ Some item → HasParts s (action.Result result) (ended s result item o)
  of_job result item None e = tt
  of_job result item (Some (name, Some success)) e = tt
  of_job result item (Some (name, None)) e =
      let test : QueueItem → Bool = has_set result.set in
      let told = with_outcome result.job result.success item in
      let ahead = before test s.items in
      let others = behind test s.items in
      either (action.Result result) (is_first_failure result.success item) _ _
      (record {
        front = ahead ++ told ∷ [];
        fresh = renewed s.next others;
        lost = others;
        parts = ap (λ xs. ahead ++ told ∷ xs) (is_behind s.next others) ∙ sym (append_assoc ahead (told ∷ []) (renewed s.next others));
        old = split_sets test item e ∙ sym (append_assoc (sets_of ahead) (item.set ∷ []) (sets_of others)) ∙ ap (λ ns. ns ++ sets_of others) (sym (sets-append ahead (told ∷ [])));
        new = sets_renewed s.next others ∙ ap (range_with_len s.next) (sym (are_behind others));
        first = none_meant result (sets_of others);
      })
      (record {
        front = ahead ++ told ∷ others;
        fresh = [];
        lost = [];
        parts = sym (append-nil (ahead ++ told ∷ others));
        old = split_sets test item e ∙ sym (sets-append ahead (told ∷ others)) ∙ sym (append-nil (sets_of (ahead ++ told ∷ others)));
        new = refl;
        first = none_meant result [];
      })

  of_result : (result : JobResult) (o : Option QueueItem) → find (has_set result.set) s.items ≡ o → HasParts s (action.Result result) (resulted s result o)
  of_result result None e = tt
  of_result result (Some item) e = of_job result item (find (is_job result.job) item.jobs) e

  of_dequeue : (key : Key) (o : Option QueueItem) → find (is_of key) s.items ≡ o → HasParts s (action.Manage (manage.Dequeue key)) (dequeued s key o)
  of_dequeue key None e = tt
  of_dequeue key (Some item) e = without_parts (action.Manage (manage.Dequeue key)) key item refl e

  of_reset : (key : Key) (o : Option QueueItem) → find (is_of key) s.items ≡ o → HasParts s (action.Manage (manage.Reset key)) (reset s key o)
  of_reset key None e = tt
  of_reset key (Some item) e =
      let others = behind (is_of key) s.items in record {
        front = before (is_of key) s.items;
        fresh = with_set s.next item ∷ renewed (s.next + 1) others;
        lost = item ∷ others;
        parts = ap (λ xs. before (is_of key) s.items ++ with_set s.next item ∷ xs) (is_behind (s.next + 1) others);
        old = split_sets (is_of key) item e;
        new = ap (λ ns. s.next ∷ ns) (sets_renewed (s.next + 1) others) ∙ (let more : suc (length others) ≡ sets_behind s.manager others + 1 = omega (arith, are_behind others) in ap (range_with_len s.next) more);
        first = keyed (action.Manage (manage.Reset key)) key item (sets_of others) refl e;
      }

  has_parts : (a : Action) → HasParts s a (plan s a)
  has_parts (action.Trigger key patchset jobs) = of_trigger key patchset jobs
  has_parts (action.Result result) = of_result result (find (has_set result.set) s.items) refl
  has_parts (action.Manage (manage.Dequeue key)) = of_dequeue key (find (is_of key) s.items) refl
  has_parts (action.Manage (manage.Reset key)) = of_reset key (find (is_of key) s.items) refl

-- ---- new items wait

each_right : {X : Type 0} (P : X → Type 0) (xs ys : List X) → Each P (xs ++ ys) → Each P ys
each_right P [] ys h = h
each_right P (x ∷ xs) ys h = each_right P xs ys h.1

waits_by : (next : ℕ) (item : QueueItem) (b : Bool) → is_complete item ≡ b → next ≤ item.set → (is_complete item ≡ true → item.set < next) → is_complete item ≡ false
waits_by next item true e high low = absurd (omega (arith, high, low e))
waits_by next item false e high low = e

fresh_wait : (next k m : ℕ) (fresh : List QueueItem) → next ≤ k → sets_of fresh ≡ range_with_len k m → Each (Fits next) fresh → Each Waits fresh
fresh_wait next k m [] h e fit = tt
fresh_wait next k zero (item ∷ fresh) h e fit = absurd (cc)
fresh_wait next k (suc m) (item ∷ fresh) h e fit =
    let own : item.set ≡ k = ap (λ ns. get_or ns 0 0) e in
    let rest : sets_of fresh ≡ range_with_len (k + 1) m = ap (drop 1) e in
    (waits_by next item (is_complete item) refl (omega (arith, h, own)) fit.0.1, fresh_wait next (k + 1) m fresh (omega (arith, h)) rest fit.1)

-- ---- what is lost

pub reports_it : (reports : List Report) (n : ℕ) → 1 ≤ count n (reported_sets reports) → has_report reports n ≡ true
reports_it reports n some = by (has_report reports n) (reported_none n reports)
  where
    by : (b : Bool) → (b ≡ false → count n (reported_sets reports) ≡ 0) → b ≡ true
    by true none = refl
    by false none = absurd (omega (arith, some, none refl))

pub has_it : (s : State) (n : ℕ) → 1 ≤ times n s.items → is_current s n ≡ true
has_it s n some = by (is_current s n) (times_none n s.items)
  where
    by : (b : Bool) → (b ≡ false → times n s.items ≡ 0) → b ≡ true
    by true none = refl
    by false none = absurd (omega (arith, some, none refl))

pub not_lost_reported : (a b : Bool) → b ≡ true → (not a && not b) ≡ false
not_lost_reported true b e = refl
not_lost_reported false b e = ap not e

pub not_lost_current : (a b : Bool) → a ≡ true → (not a && not b) ≡ false
not_lost_current a b e = ap (λ (c : Bool). not c && not b) e

pub both_false : (a b : Bool) → a ≡ false → b ≡ false → (not a && not b) ≡ true
both_false a b e f = ap (λ (c : Bool). not c && not b) e ∙ ap not f

module _ (s : State) (queue : s.manager ≡ Dependent) (well : Well s) (a : Action) where
  module _ (items : List QueueItem) (sets : ℕ) (parts : Parts s a items sets) (fit : Each (Fits s.next) items) where
    abbrev left : State
    left = made_by s items sets

    abbrev front : List QueueItem
    front = parts.front

    waits : Each Waits parts.fresh
    waits = fresh_wait s.next s.next sets parts.fresh (omega arith) parts.new (each_right (Fits s.next) front parts.fresh (subst (Each (Fits s.next)) parts.parts fit))

    abbrev stay : List ℕ
    stay = sets_of (rest_of front)

    told : reported s left ≡ map report_of (head_of front)
    told =
        drop_front s.reported (map report_of (leaving s.manager items))
        ∙ ap (λ (m : ManagerKind). map report_of (leaving m items)) queue
        ∙ ap (λ (xs : List QueueItem). map report_of (head_of xs)) parts.parts
        ∙ ap (map report_of) (head_fresh front parts.fresh waits)

    told_sets : reported_sets (reported s left) ≡ sets_of (head_of front)
    told_sets = ap reported_sets told ∙ sets_of_reports (head_of front)

    left_items : left.items ≡ rest_of front ++ parts.fresh
    left_items = ap (λ (m : ManagerKind). staying m items) queue ∙ ap rest_of parts.parts ∙ rest_fresh front parts.fresh waits

    left_sets : sets_of left.items ≡ stay ++ range_with_len s.next sets
    left_sets = ap sets_of left_items ∙ sets-append (rest_of front) parts.fresh ∙ ap (λ ns. stay ++ ns) parts.new

    front_sets : sets_of front ≡ sets_of (head_of front) ++ stay
    front_sets = ap sets_of (head_and_rest front) ∙ sets-append (head_of front) (rest_of front)

    -- how often a number stands where
    front_count : (n : ℕ) → count n (sets_of front) ≡ count n (reported_sets (reported s left)) + count n stay
    front_count n = ap (count n) front_sets ∙ count-append n (sets_of (head_of front)) stay ∙ ap (λ ns. count n ns + count n stay) (sym told_sets)

    left_count : (n : ℕ) → times n left.items ≡ count n stay + count n (range_with_len s.next sets)
    left_count n = sym (count_sets n left.items) ∙ ap (count n) left_sets ∙ count-append n stay (range_with_len s.next sets)

    old_count : (n : ℕ) → times n s.items ≡ count n (sets_of front) + count n (sets_of parts.lost)
    old_count n = sym (count_sets n s.items) ∙ ap (count n) parts.old ∙ count-append n (sets_of front) (sets_of parts.lost)

    kept_by : (n : ℕ) (b : Bool) → (b ≡ true → 0 < count n stay) → (b ≡ false → count n stay ≤ 0) → 1 ≤ count n (sets_of front) → is_lost s left n ≡ false
    kept_by n true some none h = not_lost_current (is_current left n) (has_report (reported s left) n) (has_it left n (omega (arith, some refl, left_count n)))
    kept_by n false some none h = not_lost_reported (is_current left n) (has_report (reported s left) n) (reports_it (reported s left) n (omega (arith, none refl, h, front_count n)))

    kept : (n : ℕ) → 1 ≤ count n (sets_of front) → is_lost s left n ≡ false
    kept n h = kept_by n (nat_lt 0 (count n stay)) (ltb-true 0 (count n stay)) (ltb-false 0 (count n stay)) h

    handed : (n : ℕ) (b : Bool) → (b ≡ true → n < s.next) → (b ≡ false → s.next ≤ n) → 1 ≤ times n s.items → n < s.next
    handed n true low high h = low refl
    handed n false low high h = absurd (omega (arith, h, well.sound.high n (high refl)))

    gone : (n : ℕ) → 1 ≤ count n (sets_of parts.lost) → is_lost s left n ≡ true
    gone n h =
        let low : n < s.next = handed n (nat_lt n s.next) (ltb-true n s.next) (ltb-false n s.next) (omega (arith, h, old_count n)) in
        let no_front : count n (sets_of front) ≡ 0 = omega (arith, h, old_count n, well.sound.most n) in
        let none : times n left.items ≡ 0 = omega (arith, left_count n, front_count n, no_front, none_below s.next sets n low) in
        both_false (is_current left n) (has_report (reported s left) n) (none_times n left.items none) (none_reported n (reported s left) (omega (arith, front_count n, no_front)))

    lost_sets : sets_of (cancelled s left) ≡ sets_of parts.lost
    lost_sets =
        sets_chosen (is_lost s left) s.items
        ∙ ap (filter (is_lost s left)) parts.old
        ∙ filter-append (is_lost s left) (sets_of front) (sets_of parts.lost)
        ∙ ap (λ ns. ns ++ filter (is_lost s left) (sets_of parts.lost)) (none_chosen (is_lost s left) (sets_of front) kept)
        ∙ all_chosen (is_lost s left) (sets_of parts.lost) gone

    made_goes : QueueGoes s a (left, Applied)
    made_goes = record {
      stay = stay;
      before =
          parts.old ∙ ap (λ ns. ns ++ sets_of parts.lost) front_sets ∙ append_assoc (sets_of (head_of front)) stay (sets_of parts.lost)
          ∙ ap (λ ns. ns ++ (stay ++ sets_of parts.lost)) (sym told_sets) ∙ ap (λ ns. reported_sets (reported s left) ++ (stay ++ ns)) (sym lost_sets);
      behind = left_sets ∙ (let same : sets ≡ (s.next + sets) - s.next = omega arith in ap (λ m. stay ++ range_with_len s.next m) same);
      first = λ key is applied. parts.first key is ∙ ap (λ (ns : List ℕ). slice_get ns 0) (sym lost_sets);
    }

  -- an action that is discarded leaves all as it was
  told_none : reported s s ≡ []
  told_none = ap (drop (length s.reported)) (sym (append-nil s.reported)) ∙ drop_front s.reported []

  lost_none : sets_of (cancelled s s) ≡ []
  lost_none =
      sets_chosen (is_lost s s) s.items
      ∙ none_chosen (is_lost s s) (sets_of s.items)
      (λ n h. not_lost_current (is_current s n) (has_report (reported s s) n) (has_it s n (omega (arith, h, count_sets n s.items))))

  same_goes : (why : Discard) → QueueGoes s a (s, Discarded why)
  same_goes why = record {
    stay = sets_of s.items;
    before = sym (ap (λ (rs : List Report). reported_sets rs ++ (sets_of s.items ++ sets_of (cancelled s s))) told_none ∙ ap (λ ns. sets_of s.items ++ ns) lost_none ∙ append-nil (sets_of s.items));
    behind = (let none : s.next - s.next ≡ 0 = omega arith in sym (ap (λ m. sets_of s.items ++ range_with_len s.next m) none ∙ append-nil (sets_of s.items)));
    first = λ key is applied. absurd (cc);
  }

  goes_if : (b : Bool) (items : List QueueItem) (sets : ℕ) → Parts s a items sets → Each (Fits s.next) items → QueueGoes s a (cond {A = State × Outcome} b (made_by s items sets, Applied) (s, Discarded Numbers))
  goes_if true items sets parts fit = made_goes items sets parts fit
  goes_if false items sets parts fit = same_goes Numbers

  goes_by : (p : Plan) → HasParts s a p → FitsPlan s.next p → QueueGoes s a (after_plan s p)
  goes_by (Refuses why) parts fit = same_goes why
  goes_by (Makes items sets) parts fit = goes_if (nat_lt (s.next + sets) (2 ^ 64)) items sets parts fit

  goes_one : QueueGoes s a (apply s a)
  goes_one = goes_by (plan s a) (has_parts s queue a) (fits_plan s a well.sound well.jobs)

-- ---- the manager stays

keeps_if : (s : State) (b : Bool) (items : List QueueItem) (sets : ℕ) → (cond {A = State × Outcome} b (made_by s items sets, Applied) (s, Discarded Numbers)).0.manager ≡ s.manager
keeps_if s true items sets = refl
keeps_if s false items sets = refl

pub keeps_by : (s : State) (p : Plan) → (after_plan s p).0.manager ≡ s.manager
keeps_by s (Refuses why) = refl
keeps_by s (Makes items sets) = keeps_if s (nat_lt (s.next + sets) (2 ^ 64)) items sets

pub keeps_manager : (s : State) (actions : List Action) → (after s actions).manager ≡ s.manager
keeps_manager s [] = refl
keeps_manager s (a ∷ actions) = keeps_manager (apply s a).0 actions ∙ keeps_by s (plan s a)

pub queues_go : QueuesGo
queues_go first actions a =
    let s = after (start Dependent first) actions in
    goes_one s (keeps_manager (start Dependent first) actions) (well_after (start Dependent first) (well_start Dependent first) actions) a
