-- Definitions about actions that private contracts and proofs cite, beside `History`.
use Rattle.gate_items.specs.declared.action.Action.{Action}
use Rattle.gate_items.specs.declared.action.Action.TheVariants as action

-- The action is a trigger.
abbrev pub IsTrigger : Action → Type 0
IsTrigger (action.Trigger key patchset jobs) = Unit {0}
IsTrigger (action.Result result) = ⊥
IsTrigger (action.Manage manage) = ⊥
