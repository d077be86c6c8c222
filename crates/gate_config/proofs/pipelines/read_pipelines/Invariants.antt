use Rattle.gate_config.proofs.Along.{ReadAlong}
use Rattle.gate_config.specs.Checks.{pipeline_checks}
use Rattle.gate_config.specs.Document.{pipeline_texts}
use Rattle.gate_config.specs.Inner.Found.{found_view}
use Rattle.gate_config.specs.Texts.{texts_of_pipeline}
use Rattle.gate_config.specs.Inner.Steps.{steps_of}
use Rattle.gate_config.proofs.pipelines.read_pipelines.Given as goal

abbrev pub invariant-loop-rank : goal.invariant-loop-rank
invariant-loop-rank l = ReadAlong (pipeline_checks l.connections (steps_of l.place)) found_view texts_of_pipeline (pipeline_texts l.connections) l.entries l.rank l.pipelines.items
