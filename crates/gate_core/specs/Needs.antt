-- Which steps need memory, by what they find.
use Rattle.std.specs.Prelude.{◌≡◌, ℕ, List, [], ◌∷◌, true, Option, Some, None, slice_get}
use Rattle.gate_config.specs.declared.config.Config.{Config}
use Rattle.gate_record.specs.Lines.{IsLine}
use Rattle.gate_record.specs.declared.transit.ConnEntry.{ConnEntry}
use Rattle.gate_record.specs.declared.transit.ConnEntry.TheVariants as entry
use Rattle.gate_pipeline.specs.States.{MayBeRefused, to_process}
use Rattle.gate_tenant.specs.States.{needs_memory}
use Rattle.gate_core.specs.declared.pipeline.Pipeline.{Pipeline}
use Rattle.gate_core.specs.declared.step.Step.{Step}
use Rattle.gate_core.specs.declared.step.Step.TheVariants as step
use Rattle.gate_core.specs.Pipelines.{Found, Nothing, Emptiness, Something, found}
use Rattle.gate_core.specs.States.{ConnectionState, State, TenantState, pipeline_at}

-- there is a value, and P is true of it
abbrev pub IsThere : {X : Type 0} → (X → Type 0) → Option X → Type 0
IsThere P None = ⊥
IsThere P (Some x) = P x

-- The first entry is a line, which is to be read. Neither a mark nor a record that is too long needs memory
abbrev pub NeedsOf : List ConnEntry → Type 0
NeedsOf [] = ⊥
NeedsOf (entry.Numbered n line ∷ queue) = IsLine line
NeedsOf (entry.Renew ∷ queue) = ⊥
NeedsOf (entry.End ∷ queue) = ⊥

abbrev pub TakeNeeds : ConnectionState → Type 0
TakeNeeds conn = NeedsOf conn.queue

-- there is an event to be matched, or the pipelines are to get their end marks
abbrev pub MatchNeeds : Config → ℕ → TenantState → Type 0
MatchNeeds config t tenant = needs_memory config t tenant.dispatch ≡ true

-- the worker may be refused memory for what it is to process: a trigger event, or a reset of an independent pipeline
abbrev pub NeedsFor : Found → Pipeline → Type 0
NeedsFor Nothing pipe = ⊥
NeedsFor Emptiness pipe = ⊥
NeedsFor (Something given left) pipe = MayBeRefused pipe.worker.items.manager (to_process pipe.worker.held given)

abbrev pub TurnNeeds : Pipeline → Type 0
TurnNeeds pipe = NeedsFor (found pipe) pipe

abbrev pub StepNeeds : Config → State → Step → Type 0
StepNeeds config state (step.Take c) = IsThere TakeNeeds (slice_get state.connections c.0)
StepNeeds config state (step.Match t) = IsThere (MatchNeeds config t.0) (slice_get state.tenants t.0)
StepNeeds config state (step.Turn t p) = IsThere TurnNeeds (pipeline_at t.0 p.0 state)
StepNeeds config state other = Unit {0}
