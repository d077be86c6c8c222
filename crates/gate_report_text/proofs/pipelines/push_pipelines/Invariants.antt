use Rattle.std.proofs.Common.{◌≡◌, ◌++◌, string_bytes, length}
use Rattle.gate_report_text.specs.ReportText.{pipeline_lines}
use Rattle.gate_report_text.proofs.pipelines.push_pipelines.Given as goal

-- what is written and the lines of what is left make the whole
abbrev pub invariant-loop-pipeline : goal.invariant-loop-pipeline
invariant-loop-pipeline l =
    string_bytes l.out ++ pipeline_lines l.config l.number.0 l.tenant.name l.pipelines l.reports ≡ string_bytes l.fn.out ++ pipeline_lines l.config l.number.0 l.tenant.name l.tenant.pipelines l.fn.reports

abbrev pub decreases-loop-pipeline : goal.decreases-loop-pipeline
decreases-loop-pipeline l = length l.pipelines
