-- The state of a pipeline's worker, and how its calls change it.
use Rattle.std.specs.Prelude.{◌≡◌, ℕ, List, [], ◌∷◌, ◌++◌, Bool, true, false, Option, Some, None, option_map, is_some, unwrap_or, slice_get, Result, Ok, Err, if◌then◌else◌}
use Rattle.gate_record.specs.declared.ids.ManagerKind.{ManagerKind}
use Rattle.gate_record.specs.declared.ids.ManagerKind.TheVariants.{Independent}
use Rattle.gate_record.specs.declared.ids.Stamp.{Stamp}
use Rattle.gate_record.specs.declared.memory.Memory.{Memory}
use Rattle.gate_record.specs.declared.transit.PipelineItem.TheVariants as item
use Rattle.gate_config.specs.declared.config.Config.{Config}
use Rattle.gate_config.specs.declared.config.PipelineSpec.{PipelineSpec}
use Rattle.gate_config.specs.Lookups.{pipelines_of}
use Rattle.gate_report.specs.declared.report.PipelineReport.{PipelineReport}
use Rattle.gate_items.specs.declared.action.Action.{Action}
use Rattle.gate_items.specs.declared.action.Action.TheVariants as action
use Rattle.gate_items.specs.declared.action.Outcome.{Outcome}
use Rattle.gate_items.specs.History.{MayTakeMemory, start}
use Rattle.gate_items.specs.Machine.{apply}
use Rattle.gate_items.specs.Machine as items
use Rattle.gate_pipeline.specs.declared.pass.Pass.{Pass}
use Rattle.gate_pipeline.specs.declared.pass.Phase.{Phase}
use Rattle.gate_pipeline.specs.declared.pass.Phase.TheVariants as phase
use Rattle.gate_pipeline.specs.declared.pass.Taking.TheVariants.{Value, Nothing}
use Rattle.gate_pipeline.specs.declared.which.Held.{Held}
use Rattle.gate_pipeline.specs.declared.which.Held.TheVariants as held
use Rattle.gate_pipeline.specs.declared.which.Taken.{Taken}
use Rattle.gate_pipeline.specs.declared.which.Taken.TheVariants as taken
use Rattle.gate_pipeline.specs.declared.which.Which.{Which}
use Rattle.gate_pipeline.specs.declared.which.Which.TheVariants as which
use Rattle.gate_pipeline.specs.Passes.{after_taking, first_pass}
use Rattle.gate_pipeline.specs.Triggers.{trigger_of}

-- The parts of a state: the numbers of the tenant and the pipeline; the place in the pass; the value that was taken and is still
-- to be processed; the stamps of the trigger events that were processed; whether the end mark was taken; and the queue items.
pub record State : Type 0 where
  pub tenant : ℕ
  pub pipeline : ℕ
  pub pass : Pass
  pub held : Option Held
  pub done : List Stamp
  pub finished : Bool
  pub items : items.State

-- the manager of pipeline p of tenant t; a pipeline that isn't there counts as independent
abbrev pub manager_of : Config → ℕ → ℕ → ManagerKind
manager_of config t p = unwrap_or (option_map (λ (pipeline : PipelineSpec). pipeline.manager) (slice_get (pipelines_of config t) p)) Independent

-- the state in which nothing was taken yet, and build sets are numbered from 0
abbrev pub first_state : Config → ℕ → ℕ → State
first_state config t p = record { tenant = t; pipeline = p; pass = first_pass; held = None; done = []; finished = false; items = start (manager_of config t p) 0 }

-- what a run reports of the pipeline
abbrev pub report_of : State → PipelineReport
report_of state = record { done = state.done; finished = state.finished }

-- ---- what is to be done next

abbrev pub queue_of : Phase → Which
queue_of phase.Management = which.Management
queue_of phase.Result = which.Result
queue_of phase.Trigger = which.Trigger

-- What is to be done next: nothing once the end mark was taken, else to process the held value, else to take from the queue of
-- the phase.
abbrev pub next_of : State → Which
next_of state = if state.finished then which.Finished else (if is_some state.held then which.Held else queue_of state.pass.phase)

-- what the worker must have asked for when this is handed in
abbrev pub asked : Taken → Which
asked (taken.Manage manage) = which.Management
asked (taken.Result result) = which.Result
asked (taken.Trigger item) = which.Trigger
asked taken.Again = which.Held

-- The worker is to take from a queue.
abbrev pub is_taking : Which → Bool
is_taking which.Management = true
is_taking which.Result = true
is_taking which.Trigger = true
is_taking other = false

-- ---- takings

-- A processed action: the stamp of the trigger event if it came of one, the action, and its outcome.
abbrev pub Processed : Type 0
Processed = Option Stamp × Action × Outcome

abbrev pub counted : State → State
counted state = record state { pass = after_taking state.pass Value }

abbrev pub held_as : Option Held → State → State
held_as waiting state = record state { held = waiting }

-- the state after an action is applied to the items, and what was processed
abbrev pub applied : Option Stamp → Action → State → State × Processed
applied stamp action state = (record state { items = (apply state.items action).0 }, (stamp, action, (apply state.items action).1))

-- The state after a value is processed, and what was processed. If the value is a trigger event, its stamp is done.
abbrev pub processed : Config → Held → State → State × Processed
processed config (held.Action action) state = applied None action state
processed config (held.Event stamped) state =
    applied (Some stamped.stamp) (trigger_of config state.tenant state.pipeline stamped.stamp stamped.event) (record state { done = state.done ++ stamped.stamp ∷ [] })

-- The value that is to be processed when this is handed in. For the end mark there is none.
abbrev pub to_process : Option Held → Taken → Option Held
to_process waiting (taken.Manage manage) = Some (held.Action (action.Manage manage))
to_process waiting (taken.Result result) = Some (held.Action (action.Result result))
to_process waiting (taken.Trigger (item.Event stamped)) = Some (held.Event stamped)
to_process waiting (taken.Trigger item.End) = None
to_process waiting taken.Again = waiting

-- The state after this is handed in, before it is processed: a value that was taken counts in its phase, once, and the end mark
-- finishes the pipeline.
abbrev pub taken_in : Taken → State → State
taken_in (taken.Manage manage) state = counted state
taken_in (taken.Result result) state = counted state
taken_in (taken.Trigger (item.Event stamped)) state = counted state
taken_in (taken.Trigger item.End) state = record (counted state) { finished = true }
taken_in taken.Again state = state

abbrev pub with_processed : Config → Option Held → State → State × Option Processed
with_processed config None state = (state, None)
with_processed config (Some waiting) state = ((processed config waiting (held_as None state)).0, Some (processed config waiting (held_as None state)).1)

-- The state after this is handed in and processed, and what was processed.
abbrev pub takes : Config → State → Taken → State × Option Processed
takes config state given = with_processed config (to_process state.held given) (taken_in given state)

-- What is handed in is processed; or memory was refused, and the worker holds it.
abbrev pub Takes : Config → State → Taken → State → Result (Option Processed) Memory → Type 0
Takes config old given new (Ok answer) = (new, answer) ≡ takes config old given
Takes config old given new (Err memory) = new ≡ held_as (to_process old.held given) (taken_in given old)

-- Memory may be refused to a trigger event, and to an action that takes memory. It is never refused to a result or the end mark.
abbrev pub MayBeRefused : ManagerKind → Option Held → Type 0
MayBeRefused manager None = ⊥
MayBeRefused manager (Some (held.Action action)) = MayTakeMemory manager action
MayBeRefused manager (Some (held.Event stamped)) = Unit {0}

-- the state after the queue of the phase was found empty
abbrev pub found_empty : State → State
found_empty state = record state { pass = after_taking state.pass Nothing }
