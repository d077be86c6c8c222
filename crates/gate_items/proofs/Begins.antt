-- Each build set begins once, and is cancelled or reported once at the most, whatever the actions.
use Rattle.std.proofs.Common.{◌≡◌, ◌∙◌, ◌+◌, ◌<◌, ◌≤◌, ℕ, List, [], ◌∷◌, ◌++◌, Bool, true, false, nat_lt, refl, sym, ap, arith, subst}
use Rattle.std.proofs.lemmas.Bool.{ltb-true, ltb-false}
use Rattle.gate_record.specs.declared.ids.ManagerKind.{ManagerKind}
use Rattle.gate_items.specs.declared.action.Action.{Action}
use Rattle.gate_items.specs.declared.item.Report.{Report}
use Rattle.gate_items.specs.History.{IsCancelled, after, is_current, start}
use Rattle.gate_items.specs.Machine.{State, apply}
use Rattle.gate_items.specs.Sets.{EachBeginsAndEndsOnce, all_begun, all_cancelled, all_reported, begun, cancelled, ends, reported, reported_sets, sets_of}
use Rattle.gate_items.proofs.Balances.{Step, Well, count, count-append, count_sets, none_reported, often, reported-append, reported_none, step, well_on}
use Rattle.gate_items.proofs.Histories.{after-append, all_go, current_handed, late_results_are_lost}
use Rattle.gate_items.proofs.Times.{none_times, times, times_none}

pub well_start : (manager : ManagerKind) (first : ℕ) → Well (start manager first)
well_start manager first = record { sound = record { most = λ n. omega arith; high = λ n h. refl }; jobs = tt }

is_there : (s : State) (n : ℕ) → 1 ≤ times n s.items → is_current s n ≡ true
is_there s n some = by (is_current s n) (times_none n s.items)
  where
    by : (b : Bool) → (b ≡ false → times n s.items ≡ 0) → b ≡ true
    by true none = refl
    by false none = absurd (omega (arith, some, none refl))

there_is : (s : State) (n : ℕ) → is_current s n ≡ true → 1 ≤ times n s.items
there_is s n current = by (nat_lt 0 (times n s.items)) (ltb-true 0 (times n s.items)) (ltb-false 0 (times n s.items))
  where
    by : (b : Bool) → (b ≡ true → 0 < times n s.items) → (b ≡ false → times n s.items ≤ 0) → 1 ≤ times n s.items
    by true some none = omega (arith, some refl)
    by false some none = let gone : is_current s n ≡ false = none_times n s.items (omega (arith, none refl)) in absurd (cc)

-- ---- of actions, one after another

module _ (n : ℕ) where
  begun_first : (s : State) (a : Action) (actions : List Action) → count n (all_begun s (a ∷ actions)) ≡ times n (begun s (apply s a).0) + count n (all_begun (apply s a).0 actions)
  begun_first s a actions = count-append n (sets_of (begun s (apply s a).0)) (all_begun (apply s a).0 actions) ∙ ap (λ k. k + count n (all_begun (apply s a).0 actions)) (count_sets n (begun s (apply s a).0))

  cancelled_first : (s : State) (a : Action) (actions : List Action) → count n (all_cancelled s (a ∷ actions)) ≡ times n (cancelled s (apply s a).0) + count n (all_cancelled (apply s a).0 actions)
  cancelled_first s a actions = count-append n (sets_of (cancelled s (apply s a).0)) (all_cancelled (apply s a).0 actions) ∙ ap (λ k. k + count n (all_cancelled (apply s a).0 actions)) (count_sets n (cancelled s (apply s a).0))

  reported_first : (s : State) (a : Action) (actions : List Action) → count n (all_reported s (a ∷ actions)) ≡ count n (reported_sets (reported s (apply s a).0)) + count n (all_reported (apply s a).0 actions)
  reported_first s a actions = count-append n (reported_sets (reported s (apply s a).0)) (all_reported (apply s a).0 actions)

  total : (s : State) → Well s → (actions : List Action) →
      count n (all_begun s actions) + times n s.items ≡ count n (all_cancelled s actions) + count n (all_reported s actions) + times n (after s actions).items
  total s well [] = omega arith
  total s well (a ∷ actions) =
      let first : Step s (apply s a).0 n = step s well a n in
      let rest = total (apply s a).0 (well_on s well a) actions in
      omega (arith, begun_first s a actions, cancelled_first s a actions, reported_first s a actions, first.balance, rest)

  none_old : (s : State) → Well s → (actions : List Action) → n < s.next → count n (all_begun s actions) ≡ 0
  none_old s well [] h = refl
  none_old s well (a ∷ actions) h =
      let first : times n (begun s (apply s a).0) ≡ 0 = (step s well a n).old h in
      let rest : count n (all_begun (apply s a).0 actions) ≡ 0 = none_old (apply s a).0 (well_on s well a) actions (omega (arith, h, (all_go s (a ∷ [])).rises)) in
      omega (arith, begun_first s a actions, first, rest)

  at_most : (s : State) → Well s → (actions : List Action) → count n (all_begun s actions) ≤ 1
  at_most s well [] = omega arith
  at_most s well (a ∷ actions) = by (nat_lt n (apply s a).0.next) (ltb-true n (apply s a).0.next) (ltb-false n (apply s a).0.next) (at_most (apply s a).0 (well_on s well a) actions)
    where
      by : (b : Bool) → (b ≡ true → n < (apply s a).0.next) → (b ≡ false → (apply s a).0.next ≤ n) → count n (all_begun (apply s a).0 actions) ≤ 1 → count n (all_begun s (a ∷ actions)) ≤ 1
      by true below above few =
          let rest : count n (all_begun (apply s a).0 actions) ≡ 0 = none_old (apply s a).0 (well_on s well a) actions (below refl) in
          omega (arith, begun_first s a actions, (step s well a n).few, (well_on s well a).sound.most n, rest)
      by false below above few =
          let gone : times n (apply s a).0.items ≡ 0 = (well_on s well a).sound.high n (above refl) in
          omega (arith, begun_first s a actions, (step s well a n).few, gone, few)

  begun_both : (s : State) (actions more : List Action) → count n (all_begun s (actions ++ more)) ≡ count n (all_begun s actions) + count n (all_begun (after s actions) more)
  begun_both s [] more = omega arith
  begun_both s (a ∷ actions) more = omega (arith, begun_first s a (actions ++ more), begun_first s a actions, begun_both (apply s a).0 actions more)

  reports_of_all : (s : State) → Well s → (actions : List Action) → count n (reported_sets (after s actions).reported) ≡ count n (reported_sets s.reported) + count n (all_reported s actions)
  reports_of_all s well [] = omega arith
  reports_of_all s well (a ∷ actions) =
      let first : count n (reported_sets (apply s a).0.reported) ≡ count n (reported_sets s.reported) + count n (reported_sets (reported s (apply s a).0)) =
      ap (λ (reports : List Report). count n (reported_sets reports)) (step s well a n).behind
      ∙ ap (count n) (reported-append s.reported (reported s (apply s a).0)) ∙ count-append n (reported_sets s.reported) (reported_sets (reported s (apply s a).0)) in
      omega (arith, first, reports_of_all (apply s a).0 (well_on s well a) actions, reported_first s a actions)

  -- what ended was an item's before
  record WasCurrent (s : State) (actions : List Action) : Type 0 where
    pub before : List Action
    pub behind : List Action
    pub parts : before ++ behind ≡ actions
    pub was : is_current (after s before) n ≡ true

  ended_was : (s : State) → Well s → (actions : List Action) → 1 ≤ count n (all_cancelled s actions) + count n (all_reported s actions) → WasCurrent s actions
  ended_was s well [] some = absurd (omega (arith, some))
  ended_was s well (a ∷ actions) some =
      by (nat_lt 0 (times n s.items)) (ltb-true 0 (times n s.items)) (ltb-false 0 (times n s.items)) (ended_was (apply s a).0 (well_on s well a) actions)
    where
      by : (b : Bool) → (b ≡ true → 0 < times n s.items) → (b ≡ false → times n s.items ≤ 0) →
          (1 ≤ count n (all_cancelled (apply s a).0 actions) + count n (all_reported (apply s a).0 actions) → WasCurrent (apply s a).0 actions) → WasCurrent s (a ∷ actions)
      by true here not_here later = record { before = []; behind = a ∷ actions; parts = refl; was = is_there s n (omega (arith, here refl)) }
      by false here not_here later =
          let rest : WasCurrent (apply s a).0 actions = later (omega (arith, some, cancelled_first s a actions, reported_first s a actions, (step s well a n).stood, not_here refl)) in
          record { before = a ∷ rest.before; behind = rest.behind; parts = ap (λ xs. a ∷ xs) rest.parts; was = rest.was }

-- ---- from no items on

module _ (manager : ManagerKind) (first : ℕ) (n : ℕ) where
  abbrev s0 : State
  s0 = start manager first

  well0 : Well s0
  well0 = well_start manager first

  total0 : (actions : List Action) → count n (all_begun s0 actions) ≡ count n (all_cancelled s0 actions) + count n (all_reported s0 actions) + times n (after s0 actions).items
  total0 actions = omega (arith, total n s0 well0 actions)

  begun0 : (actions more : List Action) → is_current (after s0 actions) n ≡ true → count n (all_begun s0 (actions ++ more)) ≡ 1
  begun0 actions more current =
      omega (arith, begun_both n s0 actions more, at_most n s0 well0 (actions ++ more), total0 actions, there_is (after s0 actions) n current)

  gone0 : (actions : List Action) → 1 ≤ count n (all_cancelled s0 actions) + count n (all_reported s0 actions) → is_current (after s0 actions) n ≡ false
  gone0 actions some = none_times n (after s0 actions).items (omega (arith, some, total0 actions, at_most n s0 well0 actions))

  reports0 : (actions : List Action) → count n (reported_sets (after s0 actions).reported) ≡ count n (all_reported s0 actions)
  reports0 actions = omega (arith, reports_of_all n s0 well0 actions)

  are0 : (actions : List Action) → 1 ≤ count n (all_cancelled s0 actions) → IsCancelled manager first actions n
  are0 actions some =
      let was : WasCurrent n s0 actions = ended_was n s0 well0 actions (omega (arith, some)) in
      record {
        before = was.before;
        behind = was.behind;
        parts = was.parts;
        was = was.was;
        gone = gone0 actions (omega (arith, some));
        unreported = none_reported n (after s0 actions).reported (omega (arith, some, reports0 actions, total0 actions, at_most n s0 well0 actions));
      }

  cancels0 : (actions : List Action) → IsCancelled manager first actions n → count n (all_cancelled s0 actions) ≡ 1
  cancels0 actions is =
      let one : count n (all_begun s0 actions) ≡ 1 = subst (λ xs. count n (all_begun s0 xs) ≡ 1) is.parts (begun0 is.before is.behind is.was) in
      let gone : times n (after s0 actions).items ≡ 0 = times_none n (after s0 actions).items is.gone in
      let silent : count n (reported_sets (after s0 actions).reported) ≡ 0 = reported_none n (after s0 actions).reported is.unreported in
      omega (arith, one, gone, silent, reports0 actions, total0 actions)

  handed0 : (actions : List Action) → 1 ≤ count n (all_cancelled s0 actions) + count n (all_reported s0 actions) → n < (after s0 actions).next
  handed0 actions some =
      let was : WasCurrent n s0 actions = ended_was n s0 well0 actions some in
      let early = after s0 was.before in
      let handed : n < early.next = current_handed manager first was.before n was.was in
      let later : early.next ≤ (after early was.behind).next = (all_go early was.behind).rises in
      let same : after s0 actions ≡ after early was.behind = ap (after s0) (sym was.parts) ∙ after-append s0 was.before was.behind in
      let still : (after s0 actions).next ≡ (after early was.behind).next = ap (λ (s : State). s.next) same in
      omega (arith, handed, later, still)

  ends_are : (s : State) (actions : List Action) → ends n s actions ≡ count n (all_cancelled s actions) + count n (all_reported s actions)
  ends_are s actions = omega (arith, often n (all_cancelled s actions), often n (all_reported s actions))

  current_before : (actions : List Action) (a : Action) → Well (after s0 actions) → 1 ≤ ends n (after s0 actions) (a ∷ []) → is_current (after s0 actions) n ≡ true
  current_before actions a well some =
      let s = after s0 actions in
      is_there s n (omega (arith, some, ends_are s (a ∷ []), cancelled_first n s a [], reported_first n s a [], (step s well a n).stood))

pub well_after : (s : State) → Well s → (actions : List Action) → Well (after s actions)
well_after s well [] = well
well_after s well (a ∷ actions) = well_after (apply s a).0 (well_on s well a) actions

pub each_begins_and_ends_once : EachBeginsAndEndsOnce
each_begins_and_ends_once = record {
  begins = λ m f actions more n current. often n (all_begun (start m f) (actions ++ more)) ∙ begun0 m f n actions more current;
  no_more = λ m f actions n. omega (arith, often n (all_begun (start m f) actions), at_most n (start m f) (well_start m f) actions);
  ends_once = λ m f actions n. omega (arith, ends_are m f n (start m f) actions, total0 m f n actions, at_most n (start m f) (well_start m f) actions);
  was_current = λ m f actions a n some. current_before m f n actions a (well_after (start m f) (well_start m f) actions) some;
  cancels = λ m f actions n is. often n (all_cancelled (start m f) actions) ∙ cancels0 m f n actions is;
  are_cancelled = λ m f actions n some. are0 m f n actions (omega (arith, some, often n (all_cancelled (start m f) actions)));
  discards = λ m f actions more result some.
      let ended : 1 ≤ count result.set (all_cancelled (start m f) actions) + count result.set (all_reported (start m f) actions) = omega (arith, some, ends_are m f result.set (start m f) actions) in
      late_results_are_lost m f actions more result (handed0 m f result.set actions ended) (gone0 m f result.set actions ended);
}
