-- Further definitions about `Pipelines`, which only private contracts and proofs cite.
use Rattle.gate_config.specs.declared.config.Config.{Config}
use Rattle.gate_pipeline.specs.declared.which.Taken.{Taken}
use Rattle.gate_pipeline.specs.States.{held_as, taken_in, to_process}
use Rattle.gate_core.specs.declared.answer.Answer.{Answer}
use Rattle.gate_core.specs.declared.pipeline.Pipeline.{Pipeline}
use Rattle.gate_core.specs.declared.pipeline.PipelineStep.{PipelineStep}
use Rattle.gate_core.specs.declared.pipeline.PipelineStep.TheVariants.{PostManage, PostResult, Turn}
use Rattle.gate_core.specs.Pipelines.{post_manage, post_result, refused, turned}

-- the worker gets this and is refused memory: it holds what is to be processed
abbrev pub held_in : Taken → Pipeline → Pipeline
held_in given pipe = record pipe { worker = held_as (to_process pipe.worker.held given) (taken_in given pipe.worker) }

abbrev pub pipeline_step : Config → PipelineStep → Pipeline → Pipeline × Answer
pipeline_step config (PostManage manage) = post_manage manage
pipeline_step config (PostResult ended) = post_result ended
pipeline_step config Turn = turned config

-- the state that a step leaves when it is refused memory
abbrev pub refused_step : PipelineStep → Pipeline → Pipeline
refused_step Turn pipe = refused pipe
refused_step other pipe = pipe
