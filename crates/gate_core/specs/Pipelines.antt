-- Posts to a pipeline, and the turns of its worker.
use Rattle.std.specs.Prelude.{ℕ, List, [], ◌∷◌, ◌++◌, Option, Some, None, if◌then◌else◌}
use Rattle.gate_record.specs.declared.transit.PipelineItem.{PipelineItem}
use Rattle.gate_config.specs.declared.config.Config.{Config}
use Rattle.gate_items.specs.declared.action.JobResult.{JobResult}
use Rattle.gate_items.specs.declared.action.Manage.{Manage}
use Rattle.gate_pipeline.specs.declared.which.Held.{Held}
use Rattle.gate_pipeline.specs.declared.which.Taken.{Taken}
use Rattle.gate_pipeline.specs.declared.which.Taken.TheVariants as taken
use Rattle.gate_pipeline.specs.declared.which.Which.{Which}
use Rattle.gate_pipeline.specs.declared.which.Which.TheVariants as which
use Rattle.gate_pipeline.specs.States.{Processed, first_state, found_empty, held_as, next_of, taken_in, takes, to_process}
use Rattle.gate_core.specs.declared.answer.Answer.{Answer}
use Rattle.gate_core.specs.declared.answer.Answer.TheVariants.{Full, Idle, Moved, Passed, Turned}
use Rattle.gate_core.specs.declared.pipeline.Pipeline.{Pipeline}
use Rattle.gate_record.specs.Limits.{has_place}

-- pipeline p of tenant t before anything came
abbrev pub fresh_pipeline : Config → ℕ → ℕ → Pipeline
fresh_pipeline config t p = record { management = []; results = []; triggers = []; worker = first_state config t p }

-- ---- posts

abbrev pub post_manage : Manage → Pipeline → Pipeline × Answer
post_manage manage pipe = if has_place pipe.management then (record pipe { management = pipe.management ++ manage ∷ [] }, Moved) else (pipe, Full)

abbrev pub post_result : JobResult → Pipeline → Pipeline × Answer
post_result ended pipe = if has_place pipe.results then (record pipe { results = pipe.results ++ ended ∷ [] }, Moved) else (pipe, Full)

-- ---- turns

-- What a turn finds: nothing to do, an empty queue, or a value for the worker and the queues without it
pub data Found : Type 0 where
  Nothing : Found
  Emptiness : Found
  Something : (given : Taken) → (left : Pipeline) → Found

abbrev pub first_managed : List Manage → Pipeline → Found
first_managed [] pipe = Emptiness
first_managed (manage ∷ rest) pipe = Something (taken.Manage manage) (record pipe { management = rest })

abbrev pub first_ended : List JobResult → Pipeline → Found
first_ended [] pipe = Emptiness
first_ended (ended ∷ rest) pipe = Something (taken.Result ended) (record pipe { results = rest })

abbrev pub first_triggered : List PipelineItem → Pipeline → Found
first_triggered [] pipe = Emptiness
first_triggered (item ∷ rest) pipe = Something (taken.Trigger item) (record pipe { triggers = rest })

-- what a turn finds where the worker wants this
abbrev pub found_where : Which → Pipeline → Found
found_where which.Finished pipe = Nothing
found_where which.Held pipe = Something taken.Again pipe
found_where which.Management pipe = first_managed pipe.management pipe
found_where which.Result pipe = first_ended pipe.results pipe
found_where which.Trigger pipe = first_triggered pipe.triggers pipe

abbrev pub found : Pipeline → Found
found pipe = found_where (next_of pipe.worker) pipe

-- The answer to a turn that processed this. The end mark is no action
abbrev pub answer_of : Option Processed → Answer
answer_of None = Moved
answer_of (Some (stamp, action, outcome)) = Turned stamp action outcome

-- the worker gets this value
abbrev pub took : Config → Taken → Pipeline → Pipeline × Answer
took config given pipe = (record pipe { worker = (takes config pipe.worker given).0 }, answer_of (takes config pipe.worker given).1)

-- the queue of the phase was found empty
abbrev pub passed_on : Pipeline → Pipeline × Answer
passed_on pipe = (record pipe { worker = found_empty pipe.worker }, Passed)

abbrev pub turned_by : Config → Found → Pipeline → Pipeline × Answer
turned_by config Nothing pipe = (pipe, Idle)
turned_by config Emptiness pipe = passed_on pipe
turned_by config (Something given left) pipe = took config given left

abbrev pub turned : Config → Pipeline → Pipeline × Answer
turned config pipe = turned_by config (found pipe) pipe

-- Memory was refused: what was to be processed is held, and where nothing was, all is as before
abbrev pub holding : Option Held → Taken → Pipeline → Pipeline → Pipeline
holding None given left pipe = pipe
holding (Some waiting) given left pipe = record left { worker = held_as (Some waiting) (taken_in given left.worker) }

-- the pipeline that a turn leaves when it is refused memory
abbrev pub refused_by : Found → Pipeline → Pipeline
refused_by Nothing pipe = pipe
refused_by Emptiness pipe = pipe
refused_by (Something given left) pipe = holding (to_process pipe.worker.held given) given left pipe

abbrev pub refused : Pipeline → Pipeline
refused pipe = refused_by (found pipe) pipe
