-- The report of a history of steps, and that of a state.
use Rattle.std.specs.Prelude.{ℕ, List, Bool, length, map, if◌then◌else◌}
use Rattle.std.specs.List.{enumerate_from}
use Rattle.gate_config.specs.declared.config.Config.{Config}
use Rattle.gate_config.specs.declared.config.TenantSpec.{TenantSpec}
use Rattle.gate_config.specs.declared.config.PipelineSpec.{PipelineSpec}
use Rattle.gate_config.specs.Lookups.{connections_of, tenants_of, pipelines_of}
use Rattle.gate_pipeline.specs.States as worker
use Rattle.gate_core.specs.declared.pipeline.Pipeline.{Pipeline}
use Rattle.gate_report.specs.declared.report.ConnectionReport.{ConnectionReport}
use Rattle.gate_report.specs.declared.report.EndCause.{EndCause}
use Rattle.gate_report.specs.declared.report.EndCause.TheVariants.{Unclosed, Ended}
use Rattle.gate_report.specs.declared.report.PipelineReport.{PipelineReport}
use Rattle.gate_report.specs.declared.report.RunReport.{RunReport}
use Rattle.gate_core.specs.History.{History, accepted_records, done, finished, closed, renewals}
use Rattle.gate_core.specs.States.{ConnectionState, TenantState, State}

abbrev pub cause_of : Bool → EndCause
cause_of closing = if closing then Ended else Unclosed

-- ---- the report of a history

-- how many records connection c accepted, how many of them before each renewal, and whether it was closed
abbrev pub connection_after : History → ℕ → ConnectionReport
connection_after history c = record { accepted = length (accepted_records c history); renewals = renewals c history; cause = cause_of (closed c history) }

-- what pipeline p of tenant t has processed, and whether it met its end mark
abbrev pub pipeline_after : History → ℕ → ℕ → PipelineReport
pipeline_after history t p = record { done = done t p history; finished = finished t p history }

-- the reports of the pipelines of tenant t
abbrev pub pipelines_after : Config → History → ℕ → List PipelineReport
pipelines_after config history t =
    map (λ (pipeline : ℕ × PipelineSpec). pipeline_after history t pipeline.0) (enumerate_from 0 (pipelines_of config t))

-- a report for each connection, and for each tenant those of its pipelines
abbrev pub report_after : Config → History → RunReport
report_after config history = record {
  connections = map (λ (entry : ℕ × List ℕ). connection_after history entry.0) (enumerate_from 0 (connections_of config));
  pipelines = map (λ (tenant : ℕ × TenantSpec). pipelines_after config history tenant.0) (enumerate_from 0 (tenants_of config));
}

-- ---- the report of a state

abbrev pub connection_report : ConnectionState → ConnectionReport
connection_report conn = record { accepted = conn.accepted; renewals = conn.renewals; cause = cause_of conn.closed }

abbrev pub pipeline_report : Pipeline → PipelineReport
pipeline_report pipeline = worker.report_of pipeline.worker

abbrev pub tenant_report : TenantState → List PipelineReport
tenant_report tenant = map pipeline_report tenant.pipelines

abbrev pub report_of : State → RunReport
report_of state = record { connections = map connection_report state.connections; pipelines = map tenant_report state.tenants }
