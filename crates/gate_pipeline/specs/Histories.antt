-- Histories of calls of a pipeline's worker, and the laws about each of them.
use Rattle.std.specs.Prelude.{◌≡◌, ℕ, List, [], ◌∷◌, ◌++◌, Bool, true, false, flat_map, map, Option, Some, None}
use Rattle.std.specs.List.{filter_map, list_any}
use Rattle.std.specs.Option.{option_to_list}
use Rattle.gate_record.specs.declared.ids.Stamp.{Stamp}
use Rattle.gate_record.specs.declared.transit.PipelineItem.{PipelineItem}
use Rattle.gate_record.specs.declared.transit.PipelineItem.TheVariants as item
use Rattle.gate_config.specs.declared.config.Config.{Config}
use Rattle.gate_config.specs.Lookups.{jobs_of}
use Rattle.gate_items.specs.declared.action.Action.{Action}
use Rattle.gate_items.specs.declared.action.Action.TheVariants as action
use Rattle.gate_items.specs.declared.action.JobResult.{JobResult}
use Rattle.gate_items.specs.declared.action.Manage.{Manage}
use Rattle.gate_items.specs.declared.action.Outcome.{Outcome}
use Rattle.gate_items.specs.History.{after, start}
use Rattle.gate_items.specs.Outcomes.{run}
use Rattle.gate_pipeline.specs.declared.pass.Taking.{Taking}
use Rattle.gate_pipeline.specs.declared.pass.Taking.TheVariants.{Value, Nothing}
use Rattle.gate_pipeline.specs.declared.which.Held.{Held}
use Rattle.gate_pipeline.specs.declared.which.Held.TheVariants as held
use Rattle.gate_pipeline.specs.declared.which.Taken.{Taken}
use Rattle.gate_pipeline.specs.declared.which.Taken.TheVariants as taken
use Rattle.gate_pipeline.specs.Passes.{first_pass, pass_after}
use Rattle.gate_pipeline.specs.States.{MayBeRefused, Processed, State, asked, first_state, found_empty, held_as, is_taking, manager_of, next_of, taken_in, takes, to_process}
use Rattle.gate_pipeline.specs.Triggers.{trigger_of}

-- A call: a value was handed in and processed; or it was handed in and memory was refused, so it is held; or a queue was found
-- empty.
pub data Call : Type 0 where
  Took : Config → Taken → Call
  Refused : Taken → Call
  FoundEmpty : Call

abbrev pub after_call : State → Call → State
after_call state (Took config given) = (takes config state given).0
after_call state (Refused given) = held_as (to_process state.held given) (taken_in given state)
after_call state FoundEmpty = found_empty state

-- the state after calls, one after another
abbrev pub after_calls : State → List Call → State
after_calls state [] = state
after_calls state (call ∷ calls) = after_calls (after_call state call) calls

-- the taking of a value that is handed in; a value that is tried again was taken before
abbrev pub taking_of : Taken → List Taking
taking_of taken.Again = []
taking_of other = Value ∷ []

abbrev pub takings_of : Call → List Taking
takings_of (Took config given) = taking_of given
takings_of (Refused given) = taking_of given
takings_of FoundEmpty = Nothing ∷ []

-- all takings of the calls, empty ones included
abbrev pub takings : List Call → List Taking
takings calls = flat_map takings_of calls

-- the actions that the calls processed, in order, each with its stamp and outcome
abbrev pub processed_from : State → List Call → List Processed
processed_from state [] = []
processed_from state (Took config given ∷ calls) = option_to_list (takes config state given).1 ++ processed_from (takes config state given).0 calls
processed_from state (Refused given ∷ calls) = processed_from (after_call state (Refused given)) calls
processed_from state (FoundEmpty ∷ calls) = processed_from (found_empty state) calls

abbrev pub action_of : Processed → Action
action_of done = done.1

abbrev pub stamp_of : Processed → Option Stamp
stamp_of done = done.0

-- The place of the pass is the one after all takings so far.
abbrev pub PhasesFollow : Type 0
PhasesFollow = (config : Config) (t p : ℕ) (calls : List Call) → (after_calls (first_state config t p) calls).pass ≡ pass_after first_pass (takings calls)

-- The items are the result of the actions that were processed, one after another. `done` has the stamps of those actions that
-- have one.
pub record AppliedOnce : Type 0 where
  pub items : (config : Config) (t p : ℕ) (calls : List Call) →
      (after_calls (first_state config t p) calls).items ≡ after (start (manager_of config t p) 0) (map action_of (processed_from (first_state config t p) calls))
  pub done : (config : Config) (t p : ℕ) (calls : List Call) →
      (after_calls (first_state config t p) calls).done ≡ filter_map stamp_of (processed_from (first_state config t p) calls)

-- ---- what was taken from the queues

-- The state, all values that were taken so far from each of the queues, and all actions that were processed.
pub record History : Type 0 where
  pub state : State
  pub triggers : List PipelineItem
  pub management : List Manage
  pub results : List JobResult
  pub processed : List Processed

abbrev pub beginning : Config → ℕ → ℕ → History
beginning config t p = record { state = first_state config t p; triggers = []; management = []; results = []; processed = [] }

abbrev pub trigger_in : Taken → List PipelineItem
trigger_in (taken.Trigger item) = item ∷ []
trigger_in other = []

abbrev pub manage_in : Taken → List Manage
manage_in (taken.Manage manage) = manage ∷ []
manage_in other = []

abbrev pub result_in : Taken → List JobResult
result_in (taken.Result result) = result ∷ []
result_in other = []

-- the history with one more value that was handed in, after which the state and the processed actions are these
abbrev pub with_taken : Taken → State → List Processed → History → History
with_taken given state processed h = record {
  state = state;
  triggers = h.triggers ++ trigger_in given;
  management = h.management ++ manage_in given;
  results = h.results ++ result_in given;
  processed = processed;
}

-- Histories of calls with one configuration. A value is handed in only if the worker asks for it. It is processed, or held if
-- memory was refused.
pub data Happens (config : Config) (t p : ℕ) : History → Type 0 where
  begins : Happens config t p (beginning config t p)
  took : {h : History} (given : Taken) → Happens config t p h → next_of h.state ≡ asked given →
      Happens config t p (with_taken given (takes config h.state given).0 (h.processed ++ option_to_list (takes config h.state given).1) h)
  refused : {h : History} (given : Taken) → Happens config t p h → next_of h.state ≡ asked given → MayBeRefused h.state.items.manager (to_process h.state.held given) →
      Happens config t p (with_taken given (held_as (to_process h.state.held given) (taken_in given h.state)) h.processed h)
  passed : {h : History} → Happens config t p h → is_taking (next_of h.state) ≡ true → Happens config t p (record h { state = found_empty h.state })

-- ---- what becomes of the values that were taken

-- the stamp of an event
abbrev pub stamp_in : PipelineItem → Option Stamp
stamp_in (item.Event s) = Some s.stamp
stamp_in item.End = None

abbrev pub is_end : PipelineItem → Bool
is_end (item.Event s) = false
is_end item.End = true

-- the action that a trigger event asks for, with its stamp
abbrev pub asking : Config → ℕ → ℕ → PipelineItem → Option (Option Stamp × Action)
asking config t p (item.Event s) = Some (Some s.stamp, trigger_of config t p s.stamp s.event)
asking config t p item.End = None

-- The kinds of processed actions: `triggering` keeps a trigger with its stamp, `managing` a management event, and `resulting` a
-- result.
abbrev pub triggering : Processed → Option (Option Stamp × Action)
triggering (stamp, action.Trigger key patchset jobs, outcome) = Some (stamp, action.Trigger key patchset jobs)
triggering (stamp, action.Manage manage, outcome) = None
triggering (stamp, action.Result ended, outcome) = None

abbrev pub managing : Action → Option Manage
managing (action.Manage manage) = Some manage
managing (action.Result ended) = None
managing (action.Trigger key patchset jobs) = None

abbrev pub resulting : Action → Option JobResult
resulting (action.Result ended) = Some ended
resulting (action.Manage manage) = None
resulting (action.Trigger key patchset jobs) = None

abbrev pub outcome_of : Processed → Action × Outcome
outcome_of done = (done.1, done.2)

-- The held value as it stood in its queue: `held_items` in the trigger queue, `held_managed` in that of management events,
-- `held_ended` in that of results.
abbrev pub held_items : Option Held → List PipelineItem
held_items None = []
held_items (Some (held.Event e)) = item.Event e ∷ []
held_items (Some (held.Action a)) = []

abbrev pub held_managed : Option Held → List Manage
held_managed None = []
held_managed (Some (held.Event e)) = []
held_managed (Some (held.Action a)) = option_to_list (managing a)

abbrev pub held_ended : Option Held → List JobResult
held_ended None = []
held_ended (Some (held.Event e)) = []
held_ended (Some (held.Action a)) = option_to_list (resulting a)

-- Each value that was taken was processed, or is the one that is held.
pub record AreProcessed (config : Config) (t p : ℕ) (h : History) : Type 0 where
  -- The triggers before the held one: their stamps are done, and each was processed as the action that it asks for.
  pub front : List PipelineItem
  pub triggers : h.triggers ≡ front ++ held_items h.state.held
  pub stamps : filter_map stamp_in front ≡ h.state.done
  pub asked_for : filter_map triggering h.processed ≡ filter_map (asking config t p) front
  -- The pipeline is finished exactly if the end mark was taken.
  pub ends : list_any is_end front ≡ h.state.finished
  pub management : h.management ≡ filter_map managing (map action_of h.processed) ++ held_managed h.state.held
  pub results : h.results ≡ filter_map resulting (map action_of h.processed) ++ held_ended h.state.held
  -- `done` has the stamps of what was processed. The items and the outcomes are those of the processed actions, one after
  -- another.
  pub done : h.state.done ≡ filter_map stamp_of h.processed
  pub items : h.state.items ≡ after (start (manager_of config t p) 0) (map action_of h.processed)
  pub outcomes : map outcome_of h.processed ≡ run (start (manager_of config t p) 0) (map action_of h.processed)

abbrev pub TakenIsProcessed : Type 0
TakenIsProcessed = (config : Config) (t p : ℕ) (h : History) → Happens config t p h → AreProcessed config t p h

-- With two configurations in which the pipeline has the same jobs, a value that is handed in or tried again has the same result.
abbrev pub SameJobsSameActions : Type 0
SameJobsSameActions = (a b : Config) (state : State) (given : Taken) →
    ((project : List ℕ) → jobs_of a state.tenant state.pipeline project ≡ jobs_of b state.tenant state.pipeline project) → takes a state given ≡ takes b state given
