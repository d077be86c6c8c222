-- What begins, is cancelled and is reported in one action, by how often a build set stands there.
use Rattle.std.proofs.Common.{append-nil, ◌≡◌, ◌∙◌, ◌+◌, ◌-◌, ◌<◌, ◌≤◌, ℕ, List, [], ◌∷◌, ◌++◌, Bool, true, false, cond, Option, Some, None, length, drop, map, nat_eq, nat_lt, refl, sym, ap, arith, subst, suc, zero}
use Rattle.std.specs.Prelude.{◌&&◌, ◌||◌, ◌^◌, not, unwrap_or}
use Rattle.std.specs.List.{cons_option, filter, filter_map, find, list_any, range_with_len}
use Rattle.std.proofs.lemmas.Bool.{eq-eqb, eqb-false, eqb-true, ltb-true, ltb-false}
use Rattle.std.proofs.lemmas.List.Sums.{sum_by-cons}
use Rattle.gate_record.specs.declared.ids.ManagerKind.{ManagerKind}
use Rattle.gate_record.specs.declared.ids.ManagerKind.TheVariants.{Independent, Dependent}
use Rattle.gate_items.specs.declared.action.Action.{Action}
use Rattle.gate_items.specs.declared.action.Discard.TheVariants.{Numbers}
use Rattle.gate_items.specs.declared.action.Outcome.{Outcome}
use Rattle.gate_items.specs.declared.action.Outcome.TheVariants.{Applied, Discarded}
use Rattle.gate_items.specs.declared.item.QueueItem.{QueueItem}
use Rattle.gate_items.specs.declared.item.Report.{Report}
use Rattle.gate_items.specs.History.{is_current}
use Rattle.gate_items.specs.Machine.{Plan, Refuses, Makes, State, after_plan, apply, has_set, head_of, is_complete, leaving, plan, report_of, rest_of, staying}
use Rattle.gate_items.specs.Sets.{begun, cancelled, has_report, how_often, is_lost, reported, reported_sets, sets_of}
use Rattle.gate_items.proofs.Each.{Each, each_map, each_staying}
use Rattle.gate_items.proofs.Fitting.{Fits, FitsPlan, HasJobs, fits_plan}
use Rattle.gate_items.proofs.Sound.{Fresh, FreshPlan, Sound, fewer_sound, fresh_plan, goes, made_by}
use Rattle.gate_items.proofs.Times.{bit, none_times, once, once_other, times, times_none}

-- ---- how often a number stands in a list

abbrev pub count : ℕ → List ℕ → ℕ
count n [] = 0
count n (x ∷ xs) = once n x + count n xs

bit_is : (b : Bool) → cond b 1 0 ≡ bit b
bit_is true = refl
bit_is false = refl

pub often : (n : ℕ) (xs : List ℕ) → how_often n xs ≡ count n xs
often n [] = refl
often n (x ∷ xs) =
    sum_by-cons (λ (other : ℕ). cond (nat_eq other n) 1 0) x xs
    ∙ ap (λ k. k + how_often n xs) (bit_is (nat_eq x n)) ∙ ap (λ k. once n x + k) (often n xs)

pub count-append : (n : ℕ) (xs ys : List ℕ) → count n (xs ++ ys) ≡ count n xs + count n ys
count-append n [] ys = omega arith
count-append n (x ∷ xs) ys = omega (arith, count-append n xs ys)

pub count_sets : (n : ℕ) (items : List QueueItem) → count n (sets_of items) ≡ times n items
count_sets n [] = refl
count_sets n (item ∷ items) = ap (λ k. once n item.set + k) (count_sets n items)

pub count_reports : (n : ℕ) (items : List QueueItem) → count n (reported_sets (map report_of items)) ≡ times n items
count_reports n [] = refl
count_reports n (item ∷ items) = ap (λ k. once n item.set + k) (count_reports n items)

pub reported-append : (xs ys : List Report) → reported_sets (xs ++ ys) ≡ reported_sets xs ++ reported_sets ys
reported-append [] ys = refl
reported-append (x ∷ xs) ys = ap (λ zs. x.set ∷ zs) (reported-append xs ys)

-- a report has the build set where it is counted
no_report_or : (b c : Bool) (k : ℕ) → bit b + k ≡ 0 → (k ≡ 0 → c ≡ false) → (b || c) ≡ false
no_report_or true c k e h = absurd (omega (arith, e))
no_report_or false c k e h = h (omega (arith, e))

pub none_reported : (n : ℕ) (reports : List Report) → count n (reported_sets reports) ≡ 0 → has_report reports n ≡ false
none_reported n [] e = refl
none_reported n (report ∷ reports) e = no_report_or (nat_eq report.set n) (has_report reports n) (count n (reported_sets reports)) e (none_reported n reports)

report_or : (b c : Bool) (k : ℕ) → (b || c) ≡ false → (c ≡ false → k ≡ 0) → bit b + k ≡ 0
report_or true c k e h = cc
report_or false c k e h = omega (arith, h e)

pub reported_none : (n : ℕ) (reports : List Report) → has_report reports n ≡ false → count n (reported_sets reports) ≡ 0
reported_none n [] e = refl
reported_none n (report ∷ reports) e = report_or (nat_eq report.set n) (has_report reports n) (count n (reported_sets reports)) e (reported_none n reports)

-- ---- those that are chosen by their build sets

chosen_by : (f : ℕ → Bool) (n : ℕ) (item : QueueItem) (items rest : List QueueItem) (same : Bool) (c d : Bool) → nat_eq item.set n ≡ same → f item.set ≡ c → f n ≡ d → (same ≡ true → item.set ≡ n) →
    times n rest ≡ cond d (times n items) 0 → times n (cond c (item ∷ rest) rest) ≡ cond d (bit same + times n items) 0
chosen_by f n item items rest true true true s e g is h = omega (arith, h, ap bit s)
chosen_by f n item items rest true false false s e g is h = h
chosen_by f n item items rest true true false s e g is h = let one : f item.set ≡ f n = ap f (is refl) in absurd (cc)
chosen_by f n item items rest true false true s e g is h = let one : f item.set ≡ f n = ap f (is refl) in absurd (cc)
chosen_by f n item items rest false true true s e g is h = omega (arith, h, ap bit s)
chosen_by f n item items rest false true false s e g is h = omega (arith, h, ap bit s)
chosen_by f n item items rest false false true s e g is h = omega (arith, h)
chosen_by f n item items rest false false false s e g is h = h

none_chosen : (b : Bool) → ◌≡◌ {A = ℕ} 0 (cond b 0 0)
none_chosen true = refl
none_chosen false = refl

times_chosen : (f : ℕ → Bool) (n : ℕ) (items : List QueueItem) → times n (filter (λ item. f item.set) items) ≡ cond (f n) (times n items) 0
times_chosen f n [] = none_chosen (f n)
times_chosen f n (item ∷ items) =
    chosen_by f n item items (filter (λ item. f item.set) items) (nat_eq item.set n) (f item.set) (f n) refl refl refl (eqb-true item.set n) (times_chosen f n items)

-- ---- those that leave and those that stay

complement : (b : Bool) (n : ℕ) (item : QueueItem) (xs ys : List QueueItem) (k : ℕ) → times n xs + times n ys ≡ k →
    times n (cond b (item ∷ xs) xs) + times n (cond (not b) (item ∷ ys) ys) ≡ once n item.set + k
complement true n item xs ys k e = omega (arith, e)
complement false n item xs ys k e = omega (arith, e)

at_head : (b : Bool) (n : ℕ) (item : QueueItem) (items : List QueueItem) → times n (head_of items) + times n (rest_of items) ≡ times n items →
    times n (cond b (item ∷ head_of items) []) + times n (cond b (rest_of items) (item ∷ items)) ≡ once n item.set + times n items
at_head true n item items e = omega (arith, e)
at_head false n item items e = omega arith

pub times_leaving : (m : ManagerKind) (n : ℕ) (items : List QueueItem) → times n (leaving m items) + times n (staying m items) ≡ times n items
times_leaving Independent n [] = omega arith
times_leaving Independent n (item ∷ items) = complement (is_complete item) n item (filter is_complete items) (filter (λ item. not (is_complete item)) items) (times n items) (times_leaving Independent n items)
times_leaving Dependent n [] = omega arith
times_leaving Dependent n (item ∷ items) = at_head (is_complete item) n item items (times_leaving Dependent n items)

-- what leaves had its build set before
not_new : (b : Bool) (next n : ℕ) (item : QueueItem) (xs ys : List QueueItem) → next ≤ n → (b ≡ true → item.set < next) → times n xs ≡ 0 → times n ys ≡ 0 → times n (cond b (item ∷ xs) ys) ≡ 0
not_new true next n item xs ys h old e g = let other : once n item.set ≡ 0 = once_other n item.set (λ same. omega (arith, same, h, old refl)) in omega (arith, e, other)
not_new false next n item xs ys h old e g = g

none_new : (m : ManagerKind) (next n : ℕ) (items : List QueueItem) → next ≤ n → Each (Fits next) items → times n (leaving m items) ≡ 0
none_new Independent next n [] h fit = refl
none_new Independent next n (item ∷ items) h fit =
    let rest = none_new Independent next n items h fit.1 in not_new (is_complete item) next n item (filter is_complete items) (filter is_complete items) h fit.0.1 rest rest
none_new Dependent next n [] h fit = refl
none_new Dependent next n (item ∷ items) h fit = not_new (is_complete item) next n item (head_of items) [] h fit.0.1 (none_new Dependent next n items h fit.1) refl

-- ---- the items that have numbers

current_once : (b c : Bool) (k : ℕ) → (c ≡ false → k ≡ 0) → bit b + k ≤ 1 → bit c ≡ k → bit (b || c) ≡ bit b + k
current_once true true k none most e = omega (arith, most, e)
current_once true false k none most e = omega (arith, none refl)
current_once false c k none most e = omega (arith, e)

pub current_times : (n : ℕ) (items : List QueueItem) → times n items ≤ 1 → bit (list_any (has_set n) items) ≡ times n items
current_times n [] most = refl
current_times n (item ∷ items) most =
    current_once (nat_eq item.set n) (list_any (has_set n) items) (times n items) (times_none n items) most (current_times n items (omega (arith, most)))

one_of : (n : ℕ) → once n n ≡ 1
one_of n = ap bit (eq-eqb n n refl)

module _ (items : List QueueItem) where
  abbrev numbered : ℕ → ℕ → List QueueItem
  numbered k m = filter_map (λ set. find (has_set set) items) (range_with_len k m)

  found_has : (k : ℕ) (xs : List QueueItem) (item : QueueItem) → find (has_set k) xs ≡ Some item → item.set ≡ k
  found_has k [] item e = absurd (cc)
  found_has k (x ∷ xs) item e = by (nat_eq x.set k) (eqb-true x.set k) (found_has k xs item) e
    where
      by : (b : Bool) → (b ≡ true → x.set ≡ k) → (find (has_set k) xs ≡ Some item → item.set ≡ k) → cond b (Some x) (find (has_set k) xs) ≡ Some item → item.set ≡ k
      by true is rest e = let same : x ≡ item = ap (λ (o : Option QueueItem). unwrap_or o x) e in sym (ap (λ (y : QueueItem). y.set) same) ∙ is refl
      by false is rest e = rest e

  found_none : (k : ℕ) (xs : List QueueItem) → find (has_set k) xs ≡ None → list_any (has_set k) xs ≡ false
  found_none k [] e = refl
  found_none k (x ∷ xs) e = by (nat_eq x.set k) (found_none k xs) e
    where
      by : (b : Bool) → (find (has_set k) xs ≡ None → list_any (has_set k) xs ≡ false) → cond b (Some x) (find (has_set k) xs) ≡ None → (b || list_any (has_set k) xs) ≡ false
      by true rest e = absurd (cc)
      by false rest e = rest e

  found_some : (k : ℕ) (xs : List QueueItem) (item : QueueItem) → find (has_set k) xs ≡ Some item → list_any (has_set k) xs ≡ true
  found_some k [] item e = absurd (cc)
  found_some k (x ∷ xs) item e = by (nat_eq x.set k) (found_some k xs item) e
    where
      by : (b : Bool) → (find (has_set k) xs ≡ Some item → list_any (has_set k) xs ≡ true) → cond b (Some x) (find (has_set k) xs) ≡ Some item → (b || list_any (has_set k) xs) ≡ true
      by true rest e = refl
      by false rest e = rest e

  -- of one number: the item that has it, if there is one
  one_other : (n k : ℕ) (o : Option QueueItem) (ys : List QueueItem) → find (has_set k) items ≡ o → (k ≡ n → ⊥) → times n (cons_option o ys) ≡ times n ys
  one_other n k None ys e differs = refl
  one_other n k (Some item) ys e differs = let none : once n item.set ≡ 0 = once_other n item.set (λ same. differs (sym (found_has k items item e) ∙ same)) in omega (arith, none)

  one_same : (k : ℕ) (o : Option QueueItem) (ys : List QueueItem) → find (has_set k) items ≡ o → times k (cons_option o ys) ≡ bit (list_any (has_set k) items) + times k ys
  one_same k None ys e = let none : bit (list_any (has_set k) items) ≡ 0 = ap bit (found_none k items e) in omega (arith, none)
  one_same k (Some item) ys e =
      let own : once k item.set ≡ 1 = ap (once k) (found_has k items item e) ∙ one_of k in
      let one : bit (list_any (has_set k) items) ≡ 1 = ap bit (found_some k items item e) in
      omega (arith, own, one)

  below : (k m n : ℕ) → n < k → times n (numbered k m) ≡ 0
  below k zero n h = refl
  below k (suc m) n h = one_other n k (find (has_set k) items) (numbered (k + 1) m) refl (λ e. omega (arith, e, h)) ∙ below (k + 1) m n (omega (arith, h))

  above : (k m n : ℕ) → k + m ≤ n → times n (numbered k m) ≡ 0
  above k zero n h = refl
  above k (suc m) n h = one_other n k (find (has_set k) items) (numbered (k + 1) m) refl (λ e. omega (arith, e, h)) ∙ above (k + 1) m n (omega (arith, h))

  next_place : (b : Bool) (k n : ℕ) → k ≤ n → (k ≡ n → ⊥) → (b ≡ true → k < n) → (b ≡ false → n ≤ k) → k + 1 ≤ n
  next_place true k n low differs lt le = omega (arith, lt refl)
  next_place false k n low differs lt le = let e : k ≡ n = omega (arith, low, le refl) in absurd (differs e)

  here_or_on : (same : Bool) (k m n : ℕ) → (same ≡ true → k ≡ n) → (same ≡ false → k ≡ n → ⊥) → ((k ≡ n → ⊥) → times n (numbered (k + 1) m) ≡ bit (list_any (has_set n) items)) →
      times n (numbered k (suc m)) ≡ bit (list_any (has_set n) items)
  here_or_on true k m n is differs rest =
      subst (λ j. times j (numbered k (suc m)) ≡ bit (list_any (has_set j) items)) (is refl)
      (let later : times k (numbered (k + 1) m) ≡ 0 = below (k + 1) m k (omega arith) in
      omega (arith, later, one_same k (find (has_set k) items) (numbered (k + 1) m) refl))
  here_or_on false k m n is differs rest = one_other n k (find (has_set k) items) (numbered (k + 1) m) refl (differs refl) ∙ rest (differs refl)

  within : (k m n : ℕ) → k ≤ n → n < k + m → times n (numbered k m) ≡ bit (list_any (has_set n) items)
  within k zero n low high = absurd (omega (arith, low, high))
  within k (suc m) n low high =
      here_or_on (nat_eq k n) k m n (eqb-true k n) (eqb-false k n)
      (λ differs. within (k + 1) m n (next_place (nat_lt k n) k n low differs (ltb-true k n) (ltb-false k n)) (omega (arith, high)))

-- ---- one action

-- how often a build set stands among what an action begins, cancels and reports, and among the items before and behind it
pub record Step (s s' : State) (n : ℕ) : Type 0 where
  pub balance : times n (begun s s') + times n s.items ≡ times n (cancelled s s') + count n (reported_sets (reported s s')) + times n s'.items
  pub old : n < s.next → times n (begun s s') ≡ 0
  pub few : times n (begun s s') ≤ times n s'.items
  pub stood : times n (cancelled s s') + count n (reported_sets (reported s s')) ≤ times n s.items
  pub behind : s'.reported ≡ s.reported ++ reported s s'

pub drop_front : {X : Type 0} (xs ys : List X) → drop (length xs) (xs ++ ys) ≡ ys
drop_front [] ys = refl
drop_front (x ∷ xs) ys = drop_front xs ys

either_lost : (a b : Bool) → (not a && not b) ≡ true → (a ≡ false) × (b ≡ false)
either_lost true b e = cc
either_lost false true e = cc
either_lost false false e = (refl, refl)

module _ (s s' : State) (reports : List Report) (n : ℕ) (sound : Sound s.next s.items) (sound' : Sound s'.next s'.items) (rises : s.next ≤ s'.next)
    (more : s'.reported ≡ s.reported ++ reports)
    (fewer : n < s.next → count n (reported_sets reports) + times n s'.items ≤ times n s.items)
    (not_of_new : s.next ≤ n → count n (reported_sets reports) ≡ 0) where
  told : reported s s' ≡ reports
  told = ap (drop (length s.reported)) more ∙ drop_front s.reported reports

  same_count : count n (reported_sets (reported s s')) ≡ count n (reported_sets reports)
  same_count = ap (λ (rs : List Report). count n (reported_sets rs)) told

  lost_count : times n (cancelled s s') ≡ cond (is_lost s s' n) (times n s.items) 0
  lost_count = times_chosen (is_lost s s') n s.items

  -- of a number that was handed out before
  module _ (h : n < s.next) where
    none_begun : times n (begun s s') ≡ 0
    none_begun = below s'.items s.next (s'.next - s.next) n h

    lost_or_not : (b : Bool) → is_lost s s' n ≡ b → cond b (times n s.items) 0 + (count n (reported_sets reports) + times n s'.items) ≡ times n s.items
    lost_or_not true e =
        let both = either_lost (is_current s' n) (has_report (reported s s') n) e in
        let gone : times n s'.items ≡ 0 = times_none n s'.items both.0 in
        let silent : count n (reported_sets (reported s s')) ≡ 0 = reported_none n (reported s s') both.1 in
        omega (arith, gone, silent, same_count)
    lost_or_not false e = by (nat_lt 0 (count n (reported_sets reports) + times n s'.items)) (ltb-true 0 (count n (reported_sets reports) + times n s'.items)) (ltb-false 0 (count n (reported_sets reports) + times n s'.items))
      where
        by : (b : Bool) → (b ≡ true → 0 < count n (reported_sets reports) + times n s'.items) → (b ≡ false → count n (reported_sets reports) + times n s'.items ≤ 0) → 0 + (count n (reported_sets reports) + times n s'.items) ≡ times n s.items
        by true some none = omega (arith, some refl, fewer h, sound.most n)
        by false some none =
            let gone : is_current s' n ≡ false = none_times n s'.items (omega (arith, none refl)) in
            let silent : has_report (reported s s') n ≡ false = none_reported n (reported s s') (omega (arith, none refl, same_count)) in
            absurd (cc)

    kept : times n (cancelled s s') + (count n (reported_sets (reported s s')) + times n s'.items) ≡ times n s.items
    kept = omega (arith, lost_count, same_count, lost_or_not (is_lost s s' n) refl)

    step_of_old : Step s s' n
    step_of_old = record {
      balance = omega (arith, none_begun, kept);
      old = λ _. none_begun;
      few = omega (arith, none_begun);
      stood = omega (arith, kept);
      behind = more ∙ ap (λ rs. s.reported ++ rs) (sym told);
    }

  -- of one that wasn't
  module _ (h : s.next ≤ n) where
    not_there : times n s.items ≡ 0
    not_there = sound.high n h

    none_lost : (b : Bool) → cond b (times n s.items) 0 ≡ 0
    none_lost true = not_there
    none_lost false = refl

    begun_count : (b : Bool) → (b ≡ true → n < s'.next) → (b ≡ false → s'.next ≤ n) → times n (begun s s') ≡ times n s'.items
    begun_count true below_it above_it =
        within s'.items s.next (s'.next - s.next) n h (omega (arith, rises, below_it refl)) ∙ current_times n s'.items (sound'.most n)
    begun_count false below_it above_it =
        let none : times n (begun s s') ≡ 0 = above s'.items s.next (s'.next - s.next) n (omega (arith, rises, above_it refl)) in
        let gone : times n s'.items ≡ 0 = sound'.high n (above_it refl) in
        omega (arith, none, gone)

    begun_all : times n (begun s s') ≡ times n s'.items
    begun_all = begun_count (nat_lt n s'.next) (ltb-true n s'.next) (ltb-false n s'.next)

    step_of_new : Step s s' n
    step_of_new = record {
      balance = omega (arith, begun_all, not_there, lost_count, none_lost (is_lost s s' n), same_count, not_of_new h);
      old = λ lt. absurd (omega (arith, lt, h));
      few = omega (arith, begun_all);
      stood = omega (arith, lost_count, none_lost (is_lost s s' n), same_count, not_of_new h);
      behind = more ∙ ap (λ rs. s.reported ++ rs) (sym told);
    }

  pub step_to : Step s s' n
  step_to = by (nat_lt n s.next) (ltb-true n s.next) (ltb-false n s.next)
    where
      by : (b : Bool) → (b ≡ true → n < s.next) → (b ≡ false → s.next ≤ n) → Step s s' n
      by true below_it above_it = step_of_old (below_it refl)
      by false below_it above_it = step_of_new (above_it refl)

-- what is true of the items of each state
pub record Well (s : State) : Type 0 where
  pub sound : Sound s.next s.items
  pub jobs : Each HasJobs s.items

module _ (s : State) (well : Well s) where
  still : (n : ℕ) → Step s s n
  still n = step_to s s [] n well.sound well.sound (omega arith) (sym (append-nil s.reported)) (λ h. omega arith) (λ h. refl)

  made : (items : List QueueItem) (sets n : ℕ) → Fresh s.next s.items items sets → Each (Fits s.next) items → Sound (s.next + sets) (staying s.manager items) → Step s (made_by s items sets) n
  made items sets n fresh fit sound' =
      let leave : count n (reported_sets (map report_of (leaving s.manager items))) ≡ times n (leaving s.manager items) = count_reports n (leaving s.manager items) in
      step_to s (made_by s items sets) (map report_of (leaving s.manager items)) n well.sound sound' (omega arith) refl
      (λ h. omega (arith, leave, times_leaving s.manager n items, fresh.fewer n h)) (λ h. leave ∙ none_new s.manager s.next n items h fit)

  made_if : (b : Bool) (items : List QueueItem) (sets n : ℕ) → Fresh s.next s.items items sets → Each (Fits s.next) items → Sound (s.next + sets) (staying s.manager items) → Step s (cond {A = State × Outcome} b (made_by s items sets, Applied) (s, Discarded Numbers)).0 n
  made_if true items sets n fresh fit sound' = made items sets n fresh fit sound'
  made_if false items sets n fresh fit sound' = still n

  step_by : (p : Plan) (n : ℕ) → FreshPlan s p → FitsPlan s.next p → Step s (after_plan s p).0 n
  step_by (Refuses why) n fresh fit = still n
  step_by (Makes items sets) n fresh fit = made_if (nat_lt (s.next + sets) (2 ^ 64)) items sets n fresh fit (fewer_sound s items sets (fresh.sound well.sound))

  pub step : (action : Action) (n : ℕ) → Step s (apply s action).0 n
  step action n = step_by (plan s action) n (fresh_plan s action) (fits_plan s action well.sound well.jobs)

  -- and of the state that an action leaves
  jobs_of : (item : QueueItem) → Fits s.next item → HasJobs item
  jobs_of item fit = fit.0

  jobs_if : (b : Bool) (items : List QueueItem) (sets : ℕ) → Each (Fits s.next) items → Each HasJobs (cond {A = State × Outcome} b (made_by s items sets, Applied) (s, Discarded Numbers)).0.items
  jobs_if true items sets fit = each_staying HasJobs s.manager items (each_map (Fits s.next) HasJobs jobs_of items fit)
  jobs_if false items sets fit = well.jobs

  jobs_by : (p : Plan) → FitsPlan s.next p → Each HasJobs (after_plan s p).0.items
  jobs_by (Refuses why) fit = well.jobs
  jobs_by (Makes items sets) fit = jobs_if (nat_lt (s.next + sets) (2 ^ 64)) items sets fit

  pub well_on : (action : Action) → Well (apply s action).0
  well_on action = record { sound = (goes s action).sound well.sound; jobs = jobs_by (plan s action) (fits_plan s action well.sound well.jobs) }
