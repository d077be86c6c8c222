-- Late results: those of a build set that was cancelled before.
use Rattle.std.specs.Prelude.{◌≡◌, List, [], ◌∷◌, ◌++◌, map}
use Rattle.gate_record.specs.declared.ids.ManagerKind.{ManagerKind}
use Rattle.gate_items.specs.declared.action.Action.{Action}
use Rattle.gate_items.specs.declared.action.Action.TheVariants as action
use Rattle.gate_items.specs.declared.action.Discard.TheVariants.{NotCurrent}
use Rattle.gate_items.specs.declared.action.JobResult.{JobResult}
use Rattle.gate_items.specs.declared.action.Outcome.{Outcome}
use Rattle.gate_items.specs.declared.action.Outcome.TheVariants.{Discarded}
use Rattle.gate_items.specs.History.{IsCancelled, after, start}

-- the actions of a history, without their outcomes
abbrev pub actions_in : List (Action × Outcome) → List Action
actions_in history = map (λ (event : Action × Outcome). event.0) history

-- A result of a build set is discarded if the build set was cancelled before it, whatever came between. The items and reports after the
-- result are those before it.
abbrev pub LateIsDiscarded : ManagerKind → List (Action × Outcome) → Type 0
LateIsDiscarded manager history = (before between behind : List (Action × Outcome)) (ended : JobResult) (outcome : Outcome) →
    history ≡ before ++ (between ++ (action.Result ended, outcome) ∷ behind) → IsCancelled manager 0 (actions_in before) ended.set →
    (outcome ≡ Discarded NotCurrent)
    × (after (start manager 0) (actions_in (before ++ between) ++ action.Result ended ∷ []) ≡ after (start manager 0) (actions_in (before ++ between)))
