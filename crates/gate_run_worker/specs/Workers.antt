-- What the worker of a pipeline needs to begin, and what it has done when it returns.
use Rattle.std.specs.Prelude.{◌≡◌, ◌++◌, List, ℕ}
use Rattle.gate_queue.specs.declared.tagged.Tagged.{Tagged}
use Rattle.gate_queue.specs.Seats.{TakerSeat, Shape}
use Rattle.gate_run_threads.specs.Seats.{values, fresh_head}
use Rattle.gate_record.specs.declared.transit.PipelineItem.{PipelineItem}
use Rattle.gate_config.specs.declared.config.Config.{Config}
use Rattle.gate_items.specs.declared.action.JobResult.{JobResult}
use Rattle.gate_items.specs.declared.action.Manage.{Manage}
use Rattle.gate_pipeline.specs.Histories.{Happens, History}
use Rattle.gate_pipeline.specs.States.{State, first_state}

-- the seat took these values more than it had taken before
pub record TookMore {T : Type 0} (before : TakerSeat T) (more : List T) (now : TakerSeat T) : Type 0 where
  pub queue : now.queue ≡ before.queue
  pub taken : List (Tagged T)
  pub are : values taken ≡ more
  pub behind : now.taken ≡ before.taken ++ taken

-- the worker of pipeline p of tenant t can begin: nothing was taken from its trigger queue
pub record CanWork (config : Config) (t p : ℕ) (state : State) (source : Shape) (head : TakerSeat PipelineItem) : Type 0 where
  pub begins : state ≡ first_state config t p
  pub not_taken : head ≡ fresh_head source

-- What the worker of pipeline p of tenant t has done, by its seats before and after: its calls are a history of the pipeline, over the
-- values that were taken from its queues
pub record HasWorked (config : Config) (t p : ℕ) (trigger trigger' : TakerSeat PipelineItem) (manage manage' : TakerSeat Manage) (result result' : TakerSeat JobResult) (pipeline : State) : Type 0 where
  pub past : History
  pub happens : Happens config t p past
  pub now : past.state ≡ pipeline
  pub triggers : TookMore trigger past.triggers trigger'
  pub management : TookMore manage past.management manage'
  pub results : TookMore result past.results result'
