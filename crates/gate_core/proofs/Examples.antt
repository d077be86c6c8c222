-- Worked examples of turns that are refused memory: the definitions compute what they say.
use Rattle.std.proofs.Common.{◌≡◌, ℕ, [], ◌∷◌, Some, None, refl}
use Rattle.std.specs.Prelude.{pos}
use Rattle.gate_record.specs.declared.transit.PipelineItem.TheVariants as item
use Rattle.gate_config.specs.declared.config.Config.{Config}
use Rattle.gate_items.specs.declared.action.Action.{Action}
use Rattle.gate_items.specs.declared.action.Action.TheVariants as action
use Rattle.gate_items.specs.declared.action.Discard.TheVariants.{NoItem}
use Rattle.gate_items.specs.declared.action.Manage.TheVariants as manage
use Rattle.gate_items.specs.declared.action.Outcome.TheVariants.{Discarded}
use Rattle.gate_items.specs.declared.key.Key.TheVariants as key
use Rattle.gate_pipeline.specs.declared.pass.Phase.TheVariants as phase
use Rattle.gate_pipeline.specs.declared.pass.Taking.TheVariants.{Value}
use Rattle.gate_pipeline.specs.declared.which.Held.TheVariants as held
use Rattle.gate_pipeline.specs.Passes.{after_taking, first_pass}
use Rattle.gate_pipeline.specs.States.{first_state}
use Rattle.gate_core.specs.declared.answer.Answer.TheVariants.{Turned}
use Rattle.gate_core.specs.declared.pipeline.Pipeline.{Pipeline}
use Rattle.gate_core.specs.Pipelines.{fresh_pipeline, refused, turned}

abbrev reset : Action
reset = action.Manage (manage.Reset (key.Change (record { 0 = 0 }) (pos 7)))

module _ (config : Config) (t p : ℕ) where
  -- a reset waits, and nothing else
  abbrev waits : Pipeline
  waits = record (fresh_pipeline config t p) { management = manage.Reset (key.Change (record { 0 = 0 }) (pos 7)) ∷ [] }

  -- the turn that is refused holds it, and has counted it in its phase
  abbrev holds : Pipeline
  holds = record (fresh_pipeline config t p) { worker = record (first_state config t p) { held = Some (held.Action reset); pass = after_taking first_pass Value } }

  it_is_held : refused waits ≡ holds
  it_is_held = refl

  -- so does the next, which counts nothing
  it_is_held_still : refused holds ≡ holds
  it_is_held_still = refl

  -- once there is memory it is processed, and isn't counted again: no item has this key
  it_is_processed : turned config holds ≡ (record (fresh_pipeline config t p) { worker = record (first_state config t p) { pass = after_taking first_pass Value } }, Turned None reset (Discarded NoItem))
  it_is_processed = refl

  -- an end mark is never held, and an empty queue leaves nothing to hold
  abbrev ends : Pipeline
  ends = record (fresh_pipeline config t p) { triggers = item.End ∷ []; worker = record (first_state config t p) { pass = record { phase = phase.Trigger; takings = 0 } } }

  an_end_mark_stays : refused ends ≡ ends
  an_end_mark_stays = refl

  nothing_stays : refused (fresh_pipeline config t p) ≡ fresh_pipeline config t p
  nothing_stays = refl
