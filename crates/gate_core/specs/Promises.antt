-- What the core promises of every history of a run.
use Rattle.std.specs.Prelude.{◌≡◌, ◌<◌, ◌==◌, ◌+◌, ℕ, nat_le, List, [], ◌∷◌, ◌++◌, Bool, true, length, Option, Some, is_some, slice_get, if◌then◌else◌}
use Rattle.std.specs.List.{filter_map}
use Rattle.std.specs.Option.{option_to_list}
use Rattle.gate_record.specs.declared.ids.Stamp.{Stamp}
use Rattle.gate_record.specs.Prefixes.{IsPrefixOf}
use Rattle.gate_config.specs.declared.config.Config.{Config}
use Rattle.gate_config.specs.declared.generations.Generations.{Generations}
use Rattle.gate_config.specs.Generations.{count_of}
use Rattle.gate_config.specs.Lookups.{connections_of, pipelines_of, tenants_of}
use Rattle.gate_items.specs.declared.action.Action.{Action}
use Rattle.gate_items.specs.declared.item.QueueItem.{QueueItem}
use Rattle.gate_items.specs.History.{after, start}
use Rattle.gate_items.specs.Machine.{State as ItemsState}
use Rattle.gate_items.specs.Outcomes.{run, said}
use Rattle.gate_pipeline.specs.States.{manager_of}
use Rattle.gate_core.specs.declared.answer.Answer.{Answer}
use Rattle.gate_core.specs.declared.answer.Answer.TheVariants.{Accepted, Closed, Full, Idle, Moved}
use Rattle.gate_core.specs.declared.step.Step.{Step}
use Rattle.gate_core.specs.declared.step.Step.TheVariants.{Offer, Close, Renew}
use Rattle.gate_record.specs.Limits.{places}
use Rattle.gate_core.specs.History.{History, accepted_in_force, accepted_records, actions, asked_by, closed, done, finished, manage_posts, processed_management, outcomes, result_posts, processed_results, stamp_with, processed_triggers, renewals, waiting}
use Rattle.gate_record.specs.Stamps.{numbers_from}
use Rattle.gate_delivery.specs.Wanted.{wanted}
use Rattle.gate_core.specs.Late.{LateIsDiscarded}
use Rattle.gate_core.specs.Reports.{report_after, report_of}
use Rattle.gate_core.specs.States.{State, items_at}
use Rattle.gate_core.specs.Steps.{first, left_by, run_from}
use Rattle.gate_core.specs.Worlds.{AllRenewWithin}

-- The trigger events that a pipeline has processed are, connection by connection, a prefix of the accepted records that its rules select,
-- each once and in order, and all of them once its end mark is met. The rules are those of the generation in force at the record.
pub record Delivers (gens : Generations) (history : History) : Type 0 where
  pub in_order : (t p c : ℕ) → IsPrefixOf (numbers_from c (done t p history)) (wanted gens t p c (accepted_in_force c history))
  pub whole : (t p c : ℕ) → finished t p history ≡ true → numbers_from c (done t p history) ≡ wanted gens t p c (accepted_in_force c history)

-- the answer to an offer, after this history
abbrev pub offer_answer : ℕ → History → Answer
offer_answer c history =
    if closed c history then Closed
    else (if waiting c history == places then Full else Accepted (length (accepted_records c history)))

-- the answer to a close, after this history
abbrev pub close_answer : ℕ → History → Answer
close_answer c history = if closed c history then Closed else (if waiting c history == places then Full else Moved)

-- the answer to a renewal, after this history: `Idle` where the last generation is in force
abbrev pub renew_answer : ℕ → ℕ → History → Answer
renew_answer count c history =
    if closed c history then Closed
    else (if nat_le count (length (renewals c history) + 1) then Idle
    else (if waiting c history == places then Full else Moved))

-- offers, closes and renewals of connections in range have these answers
abbrev pub IsRightAnswer : Generations → History → Step → Answer → Type 0
IsRightAnswer gens before (Offer c line) answer = c.0 < length (connections_of gens.first) → answer ≡ offer_answer c.0 before
IsRightAnswer gens before (Close c) answer = c.0 < length (connections_of gens.first) → answer ≡ close_answer c.0 before
IsRightAnswer gens before (Renew c) answer = c.0 < length (connections_of gens.first) → answer ≡ renew_answer (count_of gens) c.0 before
IsRightAnswer gens before other answer = Unit {0}

-- each offer, each close and each renewal is answered by what came before it
abbrev pub AnswersRightly : Generations → History → History → Type 0
AnswersRightly gens before [] = Unit {0}
AnswersRightly gens before (event ∷ history) =
    IsRightAnswer gens before event.0 event.1 × AnswersRightly gens (before ++ event ∷ []) history

-- ---- queue items

-- the queue items of pipeline p of tenant t before anything was processed
abbrev pub no_items : Config → ℕ → ℕ → ItemsState
no_items config t p = start (manager_of config t p) 0

-- What each pipeline has processed is what was asked of it, and its outcomes are those that the rules of queue items give.
pub record Processes (config : Config) (history : History) : Type 0 where
  -- a trigger has a stamp, and is what the accepted record of that stamp asks for
  pub triggers : (t p i : ℕ) (stamp : Option Stamp) (action : Action) → slice_get (processed_triggers t p history) i ≡ Some (stamp, action) → asked_by config t p history stamp ≡ Some action
  -- the stamps that are done are those of the processed triggers
  pub stamps : (t p : ℕ) → filter_map stamp_with (processed_triggers t p history) ≡ done t p history
  -- the management events and results are those that were posted, in order
  pub management : (t p : ℕ) → IsPrefixOf (processed_management t p history) (manage_posts t p history)
  pub results : (t p : ℕ) → IsPrefixOf (processed_results t p history) (result_posts t p history)
  -- each action has the outcome that the actions before it give
  pub outcome : (t p : ℕ) → outcomes t p history ≡ run (no_items config t p) (actions t p history)
  -- a result of a build set that was cancelled before is discarded, and changes no item and no report
  pub late : (t p : ℕ) → LateIsDiscarded (manager_of config t p) (outcomes t p history)

-- What each pipeline keeps is what the processed actions leave, one after another.
pub record Keeps (config : Config) (history : History) (state : State) : Type 0 where
  -- each pipeline of the configuration keeps something
  pub there : (t p : ℕ) → t < length (tenants_of config) → p < length (pipelines_of config t) → is_some (items_at t p state) ≡ true
  pub items : (t p : ℕ) (items : ItemsState) → items_at t p state ≡ Some items → items ≡ after (no_items config t p) (actions t p history)
  -- a job of an item has the outcome of the only applied result for that job and the item's build set, or none
  pub jobs : (t p i j : ℕ) (items : ItemsState) (item : QueueItem) (job : List ℕ × Option Bool) → items_at t p state ≡ Some items →
      slice_get items.items i ≡ Some item → slice_get item.jobs j ≡ Some job → option_to_list job.1 ≡ said item.set job.0 (outcomes t p history)

-- ---- every run

-- For all generations of a configuration, with any number of connections, tenants and pipelines, and for every list of steps: what was
-- processed is what the rules select; offers, closes and renewals are answered by what came before them; the report of the state at the end
-- says what happened; the queue items are what the processed actions leave, which are those that were asked for; and no mark that waits goes
-- beyond the last generation.
pub record EveryRunDelivers : Type 0 where
  pub delivers : (gens : Generations) (steps : List Step) → Delivers gens (run_from gens (first gens) steps)
  pub rightly : (gens : Generations) (steps : List Step) → AnswersRightly gens [] (run_from gens (first gens) steps)
  pub report : (gens : Generations) (steps : List Step) → report_of (left_by gens (first gens) steps) ≡ report_after gens.first (run_from gens (first gens) steps)
  pub processes : (gens : Generations) (steps : List Step) → Processes gens.first (run_from gens (first gens) steps)
  pub keeps : (gens : Generations) (steps : List Step) → Keeps gens.first (run_from gens (first gens) steps) (left_by gens (first gens) steps)
  pub within : (gens : Generations) (steps : List Step) → AllRenewWithin gens (left_by gens (first gens) steps)
