use Rattle.std.proofs.Common.{◌≡◌, map, take}
use Rattle.gate_core.specs.Reports.{pipeline_report}
use Rattle.gate_core.proofs.reporting.report_pipelines.Given as goal

-- those so far
abbrev pub invariant-loop-pipeline : goal.invariant-loop-pipeline
invariant-loop-pipeline l = l.reports ≡ map pipeline_report (take l.pipeline-index l.pipelines)
