-- Which build sets actions begin, cancel and report.
use Rattle.std.specs.Prelude.{◌≡◌, ◌≤◌, ◌+◌, ◌-◌, ◌&&◌, ◌++◌, ◌∷◌, [], ℕ, List, Bool, true, Option, Some, None, count_by, drop, length, map, nat_eq, not, option_and_then, option_map, slice_get, if◌then◌else◌}
use Rattle.std.specs.List.{filter, filter_map, find, list_any, range_with_len}
use Rattle.std.specs.Option.{option_to_list}
use Rattle.gate_record.specs.declared.ids.ManagerKind.{ManagerKind}
use Rattle.gate_record.specs.declared.ids.ManagerKind.TheVariants.{Independent, Dependent}
use Rattle.gate_items.specs.declared.action.Action.{Action}
use Rattle.gate_items.specs.declared.action.Action.TheVariants as action
use Rattle.gate_items.specs.declared.action.Manage.TheVariants as manage
use Rattle.gate_items.specs.declared.action.JobResult.{JobResult}
use Rattle.gate_items.specs.declared.action.Discard.{Discard}
use Rattle.gate_items.specs.declared.action.Discard.TheVariants.{NotCurrent}
use Rattle.gate_items.specs.declared.action.Outcome.{Outcome}
use Rattle.gate_items.specs.declared.action.Outcome.TheVariants.{Applied, Discarded}
use Rattle.gate_items.specs.declared.item.QueueItem.{QueueItem}
use Rattle.gate_items.specs.declared.item.Report.{Report}
use Rattle.gate_items.specs.declared.key.Key.{Key}
use Rattle.gate_items.specs.History.{IsCancelled, after, is_current, start}
use Rattle.gate_items.specs.Keys.{is_same}
use Rattle.gate_items.specs.Machine.{State, apply, has_set, is_of}

-- ---- of one action, by the state before it and the state that it leaves

-- the items whose build sets have numbers that were given out between the two states, by number
abbrev pub begun : State → State → List QueueItem
begun s s' = filter_map (λ set. find (has_set set) s'.items) (range_with_len s.next (s'.next - s.next))

-- the reports that were made between the two states
abbrev pub reported : State → State → List Report
reported s s' = drop (length s.reported) s'.reported

-- One of the reports has this build set.
abbrev pub has_report : List Report → ℕ → Bool
has_report reports set = list_any (λ (report : Report). nat_eq report.set set) reports

-- No item has the build set any more, and it wasn't reported between the two states.
abbrev pub is_lost : State → State → ℕ → Bool
is_lost s s' set = not (is_current s' set) && not (has_report (reported s s') set)

-- the items whose build sets were cancelled between the two states, from front to back
abbrev pub cancelled : State → State → List QueueItem
cancelled s s' = filter (λ item. is_lost s s' item.set) s.items

abbrev pub sets_of : List QueueItem → List ℕ
sets_of items = map (λ (item : QueueItem). item.set) items

abbrev pub reported_sets : List Report → List ℕ
reported_sets reports = map (λ (report : Report). report.set) reports

-- ---- of actions, one after another

abbrev pub all_begun : State → List Action → List ℕ
all_begun s [] = []
all_begun s (action ∷ actions) = sets_of (begun s (apply s action).0) ++ all_begun (apply s action).0 actions

abbrev pub all_cancelled : State → List Action → List ℕ
all_cancelled s [] = []
all_cancelled s (action ∷ actions) = sets_of (cancelled s (apply s action).0) ++ all_cancelled (apply s action).0 actions

abbrev pub all_reported : State → List Action → List ℕ
all_reported s [] = []
all_reported s (action ∷ actions) = reported_sets (reported s (apply s action).0) ++ all_reported (apply s action).0 actions

abbrev pub how_often : ℕ → List ℕ → ℕ
how_often set sets = count_by (λ other. nat_eq other set) sets

-- how often actions cancelled or reported a build set
abbrev pub ends : ℕ → State → List Action → ℕ
ends set s actions = how_often set (all_cancelled s actions) + how_often set (all_reported s actions)

-- Whatever the actions are: each build set that an item has after some of them begins exactly once. It is cancelled or reported
-- at most once, and only by an action before which an item had it. The build sets that are cancelled are those that `IsCancelled`
-- says. A result of a build set that was cancelled or reported changes nothing.
pub record EachBeginsAndEndsOnce : Type 0 where
  pub begins : (manager : ManagerKind) (first : ℕ) (actions more : List Action) (set : ℕ) → is_current (after (start manager first) actions) set ≡ true →
      how_often set (all_begun (start manager first) (actions ++ more)) ≡ 1
  pub no_more : (manager : ManagerKind) (first : ℕ) (actions : List Action) (set : ℕ) → how_often set (all_begun (start manager first) actions) ≤ 1
  pub ends_once : (manager : ManagerKind) (first : ℕ) (actions : List Action) (set : ℕ) → ends set (start manager first) actions ≤ 1
  pub was_current : (manager : ManagerKind) (first : ℕ) (actions : List Action) (action : Action) (set : ℕ) → 1 ≤ ends set (after (start manager first) actions) (action ∷ []) →
      is_current (after (start manager first) actions) set ≡ true
  pub cancels : (manager : ManagerKind) (first : ℕ) (actions : List Action) (set : ℕ) → IsCancelled manager first actions set → how_often set (all_cancelled (start manager first) actions) ≡ 1
  pub are_cancelled : (manager : ManagerKind) (first : ℕ) (actions : List Action) (set : ℕ) → 1 ≤ how_often set (all_cancelled (start manager first) actions) → IsCancelled manager first actions set
  pub discards : (manager : ManagerKind) (first : ℕ) (actions more : List Action) (result : JobResult) → 1 ≤ ends result.set (start manager first) actions →
      apply (after (start manager first) (actions ++ more)) (action.Result result) ≡ (after (start manager first) (actions ++ more), Discarded NotCurrent)

-- ---- of one action, by what it asks for

-- the key that the action names; a result names none
abbrev pub key_meant : Action → Option Key
key_meant (action.Trigger key patchset jobs) = key
key_meant (action.Result result) = None
key_meant (action.Manage (manage.Dequeue key)) = Some key
key_meant (action.Manage (manage.Reset key)) = Some key

-- the build set of a key's item, if the key has one
abbrev pub set_under : State → Key → Option ℕ
set_under s key = option_map (λ (item : QueueItem). item.set) (find (is_of key) s.items)

-- An action of a dependent pipeline, told by the build sets of the items from front to back. The build sets before the action are
-- those that it reports, those that stay, and those that it cancels. The build sets after it are those that stay, and then the
-- new ones. If the action names a key and is applied, the build set of that key's item is the first that is cancelled.
pub record QueueGoes (s : State) (action : Action) (end : State × Outcome) : Type 0 where
  pub stay : List ℕ
  pub before : sets_of s.items ≡ reported_sets (reported s end.0) ++ (stay ++ sets_of (cancelled s end.0))
  pub behind : sets_of end.0.items ≡ stay ++ range_with_len s.next (end.0.next - s.next)
  pub first : (key : Key) → key_meant action ≡ Some key → end.1 ≡ Applied → set_under s key ≡ slice_get (sets_of (cancelled s end.0)) 0

-- `QueueGoes` holds of each action, whatever the actions before it were.
abbrev pub QueuesGo : Type 0
QueuesGo = (first : ℕ) (actions : List Action) (action : Action) → QueueGoes (after (start Dependent first) actions) action (apply (after (start Dependent first) actions) action)

-- the build set of key `other`'s item after an action of an independent pipeline that was applied and made these reports
abbrev pub set_behind : State → Action → List Report → Key → Option ℕ
set_behind s (action.Trigger None patchset jobs) reports other = set_under s other
set_behind s (action.Trigger (Some key) patchset jobs) reports other = if is_same key other then Some s.next else set_under s other
set_behind s (action.Result result) reports other = if list_any (λ (report : Report). is_same report.key other) reports then None else set_under s other
set_behind s (action.Manage (manage.Dequeue key)) reports other = if is_same key other then None else set_under s other
set_behind s (action.Manage (manage.Reset key)) reports other = if is_same key other then Some s.next else set_under s other

-- An action of an independent pipeline cancels the build set of the item whose key it names, if there is one, and no other. After
-- it, each key has the build set that `set_behind` says.
pub record KeysGo (s : State) (action : Action) (s' : State) : Type 0 where
  pub cancels : sets_of (cancelled s s') ≡ option_to_list (option_and_then (set_under s) (key_meant action))
  pub under : (key : Key) → set_under s' key ≡ set_behind s action (reported s s') key

-- `KeysGo` holds of each action that is applied, whatever the actions before it were.
abbrev pub EachKeyGoes : Type 0
EachKeyGoes = (first : ℕ) (actions : List Action) (action : Action) → (apply (after (start Independent first) actions) action).1 ≡ Applied →
    KeysGo (after (start Independent first) actions) action (apply (after (start Independent first) actions) action).0

-- An action that is discarded leaves the state as it was.
abbrev pub DiscardsChangeNothing : Type 0
DiscardsChangeNothing = (s : State) (action : Action) (why : Discard) → (apply s action).1 ≡ Discarded why → (apply s action).0 ≡ s
