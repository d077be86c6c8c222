-- The state after a list of actions, and laws that hold whatever the actions are.
use Rattle.std.specs.Prelude.{◌≡◌, ◌≤◌, ◌<◌, ◌++◌, ◌⊎◌, ℕ, List, [], ◌∷◌, Bool, true, false, Some, length, nat_eq, slice_get}
use Rattle.std.specs.List.{filter, list_any}
use Rattle.gate_record.specs.declared.ids.ManagerKind.{ManagerKind}
use Rattle.gate_record.specs.declared.ids.ManagerKind.TheVariants.{Independent, Dependent}
use Rattle.gate_items.specs.declared.action.Action.{Action}
use Rattle.gate_items.specs.declared.action.Action.TheVariants as action
use Rattle.gate_items.specs.declared.action.Manage.TheVariants as manage
use Rattle.gate_items.specs.declared.action.JobResult.{JobResult}
use Rattle.gate_items.specs.declared.action.Discard.TheVariants.{NotCurrent}
use Rattle.gate_items.specs.declared.action.Outcome.TheVariants.{Discarded}
use Rattle.gate_items.specs.declared.item.QueueItem.{QueueItem}
use Rattle.gate_items.specs.declared.item.Report.{Report}
use Rattle.gate_items.specs.Machine.{State, apply, has_set}

-- the state without items, where `first` is the number of the first build set
abbrev pub start : ManagerKind → ℕ → State
start manager first = record { manager = manager; next = first; items = []; reported = [] }

-- the state after actions, one after another
abbrev pub after : State → List Action → State
after s [] = s
after s (action ∷ actions) = after (apply s action).0 actions

-- An item has this build set.
abbrev pub is_current : State → ℕ → Bool
is_current s set = list_any (has_set set) s.items

-- The action is a result of a build set that no item has.
abbrev pub IsLate : State → Action → Type 0
IsLate s (action.Result result) = is_current s result.set ≡ false
IsLate s (action.Trigger key patchset jobs) = ⊥
IsLate s (action.Manage manage) = ⊥

-- The action may be refused memory: it is a trigger, or a reset with an independent manager, which enters a number in the index.
abbrev pub MayTakeMemory : ManagerKind → Action → Type 0
MayTakeMemory manager (action.Trigger key patchset jobs) = Unit {0}
MayTakeMemory manager (action.Result result) = ⊥
MayTakeMemory manager (action.Manage (manage.Dequeue key)) = ⊥
MayTakeMemory Independent (action.Manage (manage.Reset key)) = Unit {0}
MayTakeMemory Dependent (action.Manage (manage.Reset key)) = ⊥

-- No two items have the same build set.
abbrev pub EachHasItsOwn : Type 0
EachHasItsOwn = (manager : ManagerKind) (first : ℕ) (actions : List Action) (set : ℕ) → length (filter (has_set set) (after (start manager first) actions).items) ≤ 1

-- The item is the same as the old one, though its jobs may have got outcomes: it has the same key, patch set and build set.
abbrev pub IsSame : QueueItem → QueueItem → Type 0
IsSame old item = (item.key ≡ old.key) × (item.patchset ≡ old.patchset) × (item.set ≡ old.set)

-- The item was there already, or has a build set whose number wasn't given out yet.
abbrev pub IsOldOrNew : State → QueueItem → Type 0
IsOldOrNew s item = ((place : ℕ) × (old : QueueItem) × (slice_get s.items place ≡ Some old) × IsSame old item) ⊎ (s.next ≤ item.set)

-- Each item after an action was there before, with the same build set, or has a new build set.
abbrev pub EachIsOldOrNew : Type 0
EachIsOldOrNew = (s : State) (action : Action) (place : ℕ) (item : QueueItem) → slice_get (apply s action).0.items place ≡ Some item → IsOldOrNew s item

-- A number that was given out, and that no item has any more, never comes again.
abbrev pub NeverAgain : Type 0
NeverAgain = (manager : ManagerKind) (first : ℕ) (actions more : List Action) (set : ℕ) →
    set < (after (start manager first) actions).next → is_current (after (start manager first) actions) set ≡ false →
    is_current (after (start manager first) (actions ++ more)) set ≡ false

-- A result of a build set that no item has any more changes nothing, whatever actions came.
abbrev pub LateResultsAreLost : Type 0
LateResultsAreLost = (manager : ManagerKind) (first : ℕ) (actions more : List Action) (result : JobResult) →
    result.set < (after (start manager first) actions).next → is_current (after (start manager first) actions) result.set ≡ false →
    apply (after (start manager first) (actions ++ more)) (action.Result result) ≡ (after (start manager first) (actions ++ more), Discarded NotCurrent)

-- The build set was cancelled by these actions: after some of them an item had it; after all of them no item has it, and no
-- report has it.
pub record IsCancelled (manager : ManagerKind) (first : ℕ) (actions : List Action) (set : ℕ) : Type 0 where
  pub before : List Action
  pub behind : List Action
  pub parts : before ++ behind ≡ actions
  pub was : is_current (after (start manager first) before) set ≡ true
  pub gone : is_current (after (start manager first) actions) set ≡ false
  pub unreported : list_any (λ (report : Report). nat_eq report.set set) (after (start manager first) actions).reported ≡ false

-- A result of a cancelled build set is discarded and changes nothing, whatever actions came in between.
abbrev pub CancelledChangesNothing : Type 0
CancelledChangesNothing = (manager : ManagerKind) (first : ℕ) (actions more : List Action) (result : JobResult) → IsCancelled manager first actions result.set →
    apply (after (start manager first) (actions ++ more)) (action.Result result) ≡ (after (start manager first) (actions ++ more), Discarded NotCurrent)
