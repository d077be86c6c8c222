use Rattle.serde_json.specs.View.{view}
use Rattle.gate_config.proofs.Each.{TestedSoFar}
use Rattle.gate_config.specs.Checks.{part_checks}
use Rattle.gate_config.specs.declared.config.PipelineSpec.{PipelineSpec}
use Rattle.gate_config.specs.Inner.Steps.{steps_of}
use Rattle.gate_config.proofs.stanzas.check_each_part.Given as goal

abbrev pub invariant-loop-pipeline : goal.invariant-loop-pipeline
invariant-loop-pipeline l = TestedSoFar (λ _. part_checks (steps_of l.here) (view l.stanza)) (λ (pipeline : PipelineSpec). pipeline.name) l.pipelines l.pipeline-index
