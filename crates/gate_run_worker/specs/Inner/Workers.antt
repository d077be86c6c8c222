-- Further definitions about `Workers`, which only private contracts and proofs cite.
use Rattle.std.specs.Prelude.{◌≡◌, ◌++◌, ◌⊎◌, List, ℕ, [], Option, Some, None}
use Rattle.gate_queue.specs.Seats.{TakerSeat}
use Rattle.gate_record.specs.declared.transit.PipelineItem.{PipelineItem}
use Rattle.gate_config.specs.declared.config.Config.{Config}
use Rattle.gate_items.specs.declared.action.JobResult.{JobResult}
use Rattle.gate_items.specs.declared.action.Manage.{Manage}
use Rattle.gate_pipeline.specs.declared.which.Taken.{Taken}
use Rattle.gate_pipeline.specs.Histories.{Happens, History, manage_in, result_in, trigger_in}
use Rattle.gate_pipeline.specs.States.{MayBeRefused, State, held_as, taken_in, takes, to_process}
use Rattle.gate_run_worker.specs.declared.worker.RunningWorker.{RunningWorker}
use Rattle.gate_run_worker.specs.Workers.{TookMore}

-- the value that was handed in is processed, or is held where memory may be refused for it
abbrev pub MayProcess : Config → State → Taken → State → Type 0
MayProcess config before given now =
    (now ≡ (takes config before given).0) ⊎ ((now ≡ held_as (to_process before.held given) (taken_in given before)) × MayBeRefused before.items.manager (to_process before.held given))

abbrev pub in_last : {T : Type 0} → (Taken → List T) → Option Taken → List T
in_last items None = []
in_last items (Some given) = items given

-- The worker of pipeline p of tenant t at work. Each of its calls was what the pipeline asked for, with the values that its seats took
-- since they were as given. The value that was taken last wasn't handed in yet
pub record IsWorking (config : Config) (t p : ℕ) (trigger : TakerSeat PipelineItem) (manage : TakerSeat Manage) (result : TakerSeat JobResult) (last : Option Taken) (working : RunningWorker) : Type 0 where
  pub past : History
  pub happens : Happens config t p past
  pub now : past.state ≡ working.state
  pub triggers : TookMore trigger (past.triggers ++ in_last trigger_in last) working.head
  pub management : TookMore manage (past.management ++ in_last manage_in last) working.management
  pub results : TookMore result (past.results ++ in_last result_in last) working.results

-- whatever the worker did before, it goes on as it should
abbrev pub Continues : Config → RunningWorker → RunningWorker → Type 0
Continues config before now = (t p : ℕ) (trigger : TakerSeat PipelineItem) (manage : TakerSeat Manage) (result : TakerSeat JobResult) →
    IsWorking config t p trigger manage result None before → IsWorking config t p trigger manage result None now
