-- What a history of steps and answers says: which records were accepted, what was posted to the pipelines, and what the pipelines have
-- processed.
use Rattle.std.specs.Prelude.{◌≡◌, ℕ, suc, ◌+◌, ◌-◌, ◌==◌, ◌&&◌, ◌||◌, List, [], ◌∷◌, ◌++◌, Bool, true, false, length, map, Option, Some, None, option_map, count_by, if◌then◌else◌}
use Rattle.std.specs.List.{cons_option, filter_map, list_any}
use Rattle.std.specs.Option.{option_to_list}
use Rattle.gate_record.specs.declared.ids.PipelineId.{PipelineId}
use Rattle.gate_record.specs.declared.ids.Stamp.{Stamp}
use Rattle.gate_record.specs.declared.ids.TenantId.{TenantId}
use Rattle.gate_record.specs.declared.record.Record.{Record}
use Rattle.gate_config.specs.declared.config.Config.{Config}
use Rattle.gate_record.specs.Entries.{beside}
use Rattle.gate_items.specs.declared.action.Action.{Action}
use Rattle.gate_items.specs.declared.action.JobResult.{JobResult}
use Rattle.gate_items.specs.declared.action.Manage.{Manage}
use Rattle.gate_items.specs.declared.action.Outcome.{Outcome}
use Rattle.gate_pipeline.specs.Histories.{action_of, managing, outcome_of, resulting, stamp_of, triggering}
use Rattle.gate_pipeline.specs.States.{Processed}
use Rattle.gate_delivery.specs.Wanted.{asked_among}
use Rattle.gate_core.specs.declared.answer.Answer.{Answer}
use Rattle.gate_core.specs.declared.answer.Answer.TheVariants.{Accepted, Moved, Turned}
use Rattle.gate_core.specs.declared.step.Step.{Step}
use Rattle.gate_core.specs.declared.step.Step.TheVariants.{Offer, Close, Renew, Take, PostManage, PostResult, Turn}

-- the steps so far, each with its answer, in order
abbrev pub History : Type 0
History = List (Step × Answer)

-- ---- single steps and answers

abbrev pub is_accepted : Answer → Bool
is_accepted (Accepted n) = true
is_accepted other = false

abbrev pub is_moved : Answer → Bool
is_moved Moved = true
is_moved other = false

-- what a turn processed: an action, the stamp of a trigger event, and the outcome
abbrev pub processed_of : Answer → Option Processed
processed_of (Turned stamp action outcome) = Some (stamp, action, outcome)
processed_of other = None

-- the record that the step offers to connection c
abbrev pub offered_to : ℕ → Step → Option Record
offered_to c (Offer d line) = if d.0 == c then Some line else None
offered_to c other = None

abbrev pub is_offer : ℕ → Step → Bool
is_offer c (Offer d line) = d.0 == c
is_offer c other = false

abbrev pub is_close : ℕ → Step → Bool
is_close c (Close d) = d.0 == c
is_close c other = false

abbrev pub is_renew : ℕ → Step → Bool
is_renew c (Renew d) = d.0 == c
is_renew c other = false

abbrev pub is_take : ℕ → Step → Bool
is_take c (Take d) = d.0 == c
is_take c other = false

-- the tenant and the pipeline whose turn the step is
abbrev pub turn_of : Step → Option (TenantId × PipelineId)
turn_of (Turn t p) = Some (t, p)
turn_of other = None

abbrev pub is_at : ℕ → ℕ → Option (TenantId × PipelineId) → Bool
is_at t p None = false
is_at t p (Some (u, q)) = (u.0 == t) && (q.0 == p)

abbrev pub is_turn : ℕ → ℕ → Step → Bool
is_turn t p s = is_at t p (turn_of s)

-- the management event, and the result, that the step posts to pipeline p of tenant t
abbrev pub posted_manage : ℕ → ℕ → Step → Option Manage
posted_manage t p (PostManage u q manage) = if (u.0 == t) && (q.0 == p) then Some manage else None
posted_manage t p other = None

abbrev pub posted_result : ℕ → ℕ → Step → Option JobResult
posted_result t p (PostResult u q ended) = if (u.0 == t) && (q.0 == p) then Some ended else None
posted_result t p other = None

-- ---- what was accepted

abbrev pub accepted_in : ℕ → Step × Answer → Option Record
accepted_in c event = if is_accepted event.1 then offered_to c event.0 else None

-- the records that connection c accepted, in the order of the steps
abbrev pub accepted_records : ℕ → History → List Record
accepted_records c history = filter_map (accepted_in c) history

-- the next generation was put in force on connection c
abbrev pub renewed_in : ℕ → Step × Answer → Bool
renewed_in c event = is_renew c event.0 && is_moved event.1

-- for each renewal of connection c, how many records it had accepted before, where n were accepted before all of these
abbrev pub renewals_from : ℕ → ℕ → History → List ℕ
renewals_from c n [] = []
renewals_from c n (event ∷ history) =
    (if renewed_in c event then n ∷ [] else []) ++ renewals_from c (n + length (option_to_list (accepted_in c event))) history

abbrev pub renewals : ℕ → History → List ℕ
renewals c history = renewals_from c 0 history

-- the records that connection c accepted, each with the number of renewals before it, where g renewals came before this history
abbrev pub accepted_behind : ℕ → ℕ → History → List (ℕ × Record)
accepted_behind c g [] = []
accepted_behind c g (event ∷ history) =
    cons_option (option_map (λ line. (g, line)) (accepted_in c event)) (accepted_behind c (if renewed_in c event then suc g else g) history)

-- the same, computed from the places of the renewals: each record with the generation in force at its number
abbrev pub accepted_in_force : ℕ → History → List (ℕ × Record)
accepted_in_force c history = beside (renewals c history) (accepted_records c history)

-- the two ways agree: the generation of each record follows from the places of the renewals
abbrev pub EachHasItsGeneration : Type 0
EachHasItsGeneration = (c : ℕ) (history : History) → accepted_behind c 0 history ≡ accepted_in_force c history

-- ---- what was processed

abbrev pub processed_in : ℕ → ℕ → Step × Answer → Option Processed
processed_in t p event = if is_turn t p event.0 then processed_of event.1 else None

-- what pipeline p of tenant t has processed, in order
abbrev pub processed_by : ℕ → ℕ → History → List Processed
processed_by t p history = filter_map (processed_in t p) history

-- the actions that pipeline p of tenant t has processed, and below the same with their outcomes
abbrev pub actions : ℕ → ℕ → History → List Action
actions t p history = map action_of (processed_by t p history)

abbrev pub outcomes : ℕ → ℕ → History → List (Action × Outcome)
outcomes t p history = map outcome_of (processed_by t p history)

-- the stamps of the trigger events that pipeline p of tenant t has processed
abbrev pub done : ℕ → ℕ → History → List Stamp
done t p history = filter_map stamp_of (processed_by t p history)

-- the triggers among the processed actions, each with its stamp
abbrev pub processed_triggers : ℕ → ℕ → History → List (Option Stamp × Action)
processed_triggers t p history = filter_map triggering (processed_by t p history)

abbrev pub stamp_with : Option Stamp × Action → Option Stamp
stamp_with trigger = trigger.0

abbrev pub asked_by : Config → ℕ → ℕ → History → Option Stamp → Option Action
asked_by config t p history stamp = asked_among config t p (λ c. accepted_records c history) stamp

-- the management events among the processed actions, and below the results
abbrev pub processed_management : ℕ → ℕ → History → List Manage
processed_management t p history = filter_map managing (actions t p history)

abbrev pub processed_results : ℕ → ℕ → History → List JobResult
processed_results t p history = filter_map resulting (actions t p history)

-- the management events and results that were posted to pipeline p of tenant t
abbrev pub manage_posted_in : ℕ → ℕ → Step × Answer → Option Manage
manage_posted_in t p event = if is_moved event.1 then posted_manage t p event.0 else None

abbrev pub result_posted_in : ℕ → ℕ → Step × Answer → Option JobResult
result_posted_in t p event = if is_moved event.1 then posted_result t p event.0 else None

abbrev pub manage_posts : ℕ → ℕ → History → List Manage
manage_posts t p history = filter_map (manage_posted_in t p) history

abbrev pub result_posts : ℕ → ℕ → History → List JobResult
result_posts t p history = filter_map (result_posted_in t p) history

-- a turn of pipeline p of tenant t met the end mark
abbrev pub finished : ℕ → ℕ → History → Bool
finished t p history = list_any (λ (event : Step × Answer). is_turn t p event.0 && is_moved event.1) history

-- ---- a connection's queue

-- connection c was closed
abbrev pub closed : ℕ → History → Bool
closed c history = list_any (λ (event : Step × Answer). is_close c event.0 && is_moved event.1) history

abbrev pub is_put : ℕ → Step × Answer → Bool
is_put c event = (is_offer c event.0 && is_accepted event.1) || ((is_close c event.0 && is_moved event.1) || renewed_in c event)

abbrev pub has_taken : ℕ → Step × Answer → Bool
has_taken c event = is_take c event.0 && is_moved event.1

-- how many entries wait in the queue of connection c
abbrev pub waiting : ℕ → History → ℕ
waiting c history = count_by (is_put c) history - count_by (has_taken c) history
