-- The outcomes of jobs, by the results that were applied.
use Rattle.std.specs.Prelude.{◌≡◌, ◌&&◌, ℕ, List, [], ◌∷◌, Bool, Option, Some, None, nat_eq, slice_get, if◌then◌else◌}
use Rattle.std.specs.List.{filter_map}
use Rattle.std.specs.Option.{option_to_list}
use Rattle.std.specs.Str.{bytes_eq}
use Rattle.gate_record.specs.declared.ids.ManagerKind.{ManagerKind}
use Rattle.gate_items.specs.declared.action.Action.{Action}
use Rattle.gate_items.specs.declared.action.Action.TheVariants as action
use Rattle.gate_items.specs.declared.action.Outcome.{Outcome}
use Rattle.gate_items.specs.declared.action.Outcome.TheVariants.{Applied, Discarded}
use Rattle.gate_items.specs.declared.item.QueueItem.{QueueItem}
use Rattle.gate_items.specs.History.{after, start}
use Rattle.gate_items.specs.Machine.{State, apply}

-- the actions, one after another, each paired with its outcome
abbrev pub run : State → List Action → List (Action × Outcome)
run s [] = []
run s (action ∷ actions) = (action, (apply s action).1) ∷ run (apply s action).0 actions

-- what an action says of a job of a build set, if it is an applied result of that job: whether the job succeeded
abbrev pub says : ℕ → List ℕ → Action → Outcome → Option Bool
says set job (action.Result result) Applied = if nat_eq set result.set && bytes_eq job result.job then Some result.success else None
says set job (action.Result result) (Discarded why) = None
says set job (action.Trigger key patchset jobs) outcome = None
says set job (action.Manage manage) outcome = None

-- all that actions said of a job of a build set
abbrev pub said : ℕ → List ℕ → List (Action × Outcome) → List Bool
said set job history = filter_map (λ (event : Action × Outcome). says set job event.0 event.1) history

-- After any actions, each job of an item has the outcome of the one applied result with the item's build set and that job, and no
-- outcome if there was no such result.
abbrev pub OutcomesAreSaid : Type 0
OutcomesAreSaid = (manager : ManagerKind) (first : ℕ) (actions : List Action) (i j : ℕ) (item : QueueItem) (job : List ℕ × Option Bool) →
    slice_get (after (start manager first) actions).items i ≡ Some item → slice_get item.jobs j ≡ Some job →
    option_to_list job.1 ≡ said item.set job.0 (run (start manager first) actions)
