-- What is true after any list of actions.
use Rattle.std.proofs.Common.{◌≡◌, ◌∙◌, ◌<◌, ◌≤◌, ℕ, List, [], ◌∷◌, ◌++◌, Bool, true, false, cond, Some, None, nat_lt, refl, sym, ap, arith, subst}
use Rattle.std.specs.Prelude.{◌||◌, Err, Ok, Result}
use Rattle.std.specs.List.{find, list_any}
use Rattle.gate_record.specs.declared.ids.ManagerKind.{ManagerKind}
use Rattle.gate_items.specs.declared.action.Action.{Action}
use Rattle.gate_items.specs.declared.action.Action.TheVariants as action
use Rattle.gate_items.specs.declared.action.Discard.TheVariants.{NotCurrent}
use Rattle.gate_record.specs.declared.memory.Memory.{Memory}
use Rattle.gate_items.specs.declared.action.Outcome.{Outcome}
use Rattle.gate_items.specs.declared.action.Outcome.TheVariants.{Discarded}
use Rattle.gate_items.specs.Steps.{Does}
use Rattle.gate_items.specs.declared.action.JobResult.{JobResult}
use Rattle.gate_items.specs.declared.item.QueueItem.{QueueItem}
use Rattle.gate_items.specs.History.{CancelledChangesNothing, EachHasItsOwn, IsLate, LateResultsAreLost, NeverAgain, after, is_current, start}
use Rattle.gate_items.specs.Machine.{State, after_plan, apply, has_set, resulted}
use Rattle.std.proofs.lemmas.Bool.{ltb-true, ltb-false}
use Rattle.gate_items.proofs.Sound.{Goes, Sound, goes}
use Rattle.gate_items.proofs.Times.{none_times, times, times_filter, times_none}

sound_start : (m : ManagerKind) (first : ℕ) → Sound first []
sound_start m first = record { most = λ n. omega arith; high = λ n h. refl }

pub all_go : (s : State) (actions : List Action) → Goes s (after s actions)
all_go s [] = record { rises = omega arith; fewer = λ n h. omega arith; sound = λ before. before }
all_go s (action ∷ actions) =
    let first : Goes s (apply s action).0 = goes s action in
    let rest : Goes (apply s action).0 (after (apply s action).0 actions) = all_go (apply s action).0 actions in
    record {
      rises = omega (arith, first.rises, rest.rises);
      fewer = λ n h. omega (arith, first.fewer n h, rest.fewer n (omega (arith, h, first.rises)));
      sound = λ before. rest.sound (first.sound before);
    }

pub each_has_its_own : EachHasItsOwn
each_has_its_own manager first actions set =
    subst (λ n. n ≤ 1) (sym (times_filter set (after (start manager first) actions).items)) (((all_go (start manager first) actions).sound (sound_start manager first)).most set)

pub after-append : (s : State) (actions more : List Action) → after s (actions ++ more) ≡ after (after s actions) more
after-append s [] more = refl
after-append s (action ∷ actions) more = after-append (apply s action).0 actions more

gone : (s : State) (more : List Action) (set : ℕ) → set < s.next → is_current s set ≡ false → is_current (after s more) set ≡ false
gone s more set h e =
    let none : times set s.items ≡ 0 = times_none set s.items e in
    let later : Goes s (after s more) = all_go s more in
    none_times set (after s more).items (omega (arith, later.fewer set h, none))

pub never_again : NeverAgain
never_again manager first actions more set h e =
    subst (λ s. is_current s set ≡ false) (sym (after-append (start manager first) actions more))
    (gone (after (start manager first) actions) more set h e)

found_none : (test : QueueItem → Bool) (items : List QueueItem) → list_any test items ≡ false → find test items ≡ None
found_none test [] e = refl
found_none test (item ∷ items) e = by (test item) (list_any test items) e (found_none test items)
  where
    by : (b c : Bool) → (b || c) ≡ false → (c ≡ false → find test items ≡ None) → cond b (Some item) (find test items) ≡ None
    by true c e h = cc
    by false c e h = h e

-- a number that was handed out and is no item's isn't one after an action
pub stays_gone : (s : State) (action : Action) (set : ℕ) → set < s.next → is_current s set ≡ false → is_current (apply s action).0 set ≡ false
stays_gone s action set h e = gone s (action ∷ []) set h e

pub next_rises : (s : State) (action : Action) → s.next ≤ (apply s action).0.next
next_rises s action = (goes s action).rises

lost : (s : State) (result : JobResult) → is_current s result.set ≡ false → apply s (action.Result result) ≡ (s, Discarded NotCurrent)
lost s result e = ap (λ o. after_plan s (resulted s result o)) (found_none (has_set result.set) s.items e)

pub late_results_are_lost : LateResultsAreLost
late_results_are_lost manager first actions more result h e =
    lost (after (start manager first) (actions ++ more)) result (never_again manager first actions more result.set h e)

-- a build set that is an item's was handed out
pub current_handed : (manager : ManagerKind) (first : ℕ) (actions : List Action) (set : ℕ) → is_current (after (start manager first) actions) set ≡ true → set < (after (start manager first) actions).next
current_handed manager first actions set now = by (nat_lt set (after (start manager first) actions).next) (ltb-true set (after (start manager first) actions).next) (ltb-false set (after (start manager first) actions).next)
  where
    by : (b : Bool) → (b ≡ true → set < (after (start manager first) actions).next) → (b ≡ false → (after (start manager first) actions).next ≤ set) → set < (after (start manager first) actions).next
    by true below above = below refl
    by false below above =
        let s = after (start manager first) actions in
        let none : times set s.items ≡ 0 = ((all_go (start manager first) actions).sound (sound_start manager first)).high set (above refl) in
        let not_now : is_current s set ≡ false = none_times set s.items none in
        absurd (cc)

pub cancelled_changes_nothing : CancelledChangesNothing
cancelled_changes_nothing manager first actions more result cancelled =
    let early = after (start manager first) cancelled.before in
    let handed : result.set < early.next = current_handed manager first cancelled.before result.set cancelled.was in
    let later : early.next ≤ (after early cancelled.behind).next = (all_go early cancelled.behind).rises in
    let same : after (start manager first) actions ≡ after early cancelled.behind = ap (after (start manager first)) (sym cancelled.parts) ∙ after-append (start manager first) cancelled.before cancelled.behind in
    let still : (after (start manager first) actions).next ≡ (after early cancelled.behind).next = ap (λ (s : State). s.next) same in
    late_results_are_lost manager first actions more result (omega (arith, handed, later, still)) cancelled.gone

-- a result of a build set that is no item's
pub late_is_lost : (s : State) (action : Action) → IsLate s action → apply s action ≡ (s, Discarded NotCurrent)
late_is_lost s (action.Result result) late = lost s result late
late_is_lost s (action.Trigger key patchset jobs) late = absurd late
late_is_lost s (action.Manage manage) late = absurd late

-- ---- the same of a call that may be refused memory

module _ (s new : State) (action : Action) where
  pub rises_by : (r : Result Outcome Memory) → Does s (apply s action) new r → s.next ≤ new.next
  rises_by (Ok outcome) h = let e : new ≡ (apply s action).0 = ap (λ (p : State × Outcome). p.0) h in subst (λ (t : State). s.next ≤ t.next) (sym e) (next_rises s action)
  rises_by (Err memory) h = let e : new ≡ s = h in subst (λ (t : State). s.next ≤ t.next) (sym e) (omega arith)

  pub gone_by : (r : Result Outcome Memory) → Does s (apply s action) new r → (set : ℕ) → set < s.next → is_current s set ≡ false → is_current new set ≡ false
  gone_by (Ok outcome) h set l e = let same : new ≡ (apply s action).0 = ap (λ (p : State × Outcome). p.0) h in subst (λ (t : State). is_current t set ≡ false) (sym same) (stays_gone s action set l e)
  gone_by (Err memory) h set l e = let same : new ≡ s = h in subst (λ (t : State). is_current t set ≡ false) (sym same) e

  pub late_by : (r : Result Outcome Memory) → Does s (apply s action) new r → IsLate s action → new ≡ s
  late_by (Ok outcome) h late = ap (λ (p : State × Outcome). p.0) h ∙ ap (λ (p : State × Outcome). p.0) (late_is_lost s action late)
  late_by (Err memory) h late = h
