-- The text of a run's report: lines of its connections, then of its pipelines.
use Rattle.std.specs.Prelude.{ℕ, ◌+◌, List, [], ◌∷◌, ◌++◌, Bool, codes, decimal, flat_map, if◌then◌else◌}
use Rattle.gate_record.specs.declared.ids.Stamp.{Stamp}
use Rattle.gate_record.specs.Names.{name_text}
use Rattle.gate_record.specs.Stamps.{numbers_from}
use Rattle.gate_config.specs.declared.config.Config.{Config}
use Rattle.gate_config.specs.declared.config.PipelineSpec.{PipelineSpec}
use Rattle.gate_config.specs.declared.config.TenantSpec.{TenantSpec}
use Rattle.gate_config.specs.Lookups.{connections_of, tenants_of, lists}
use Rattle.gate_line.specs.Words.{spaced_number, state_word}
use Rattle.gate_report.specs.declared.report.ConnectionReport.{ConnectionReport}
use Rattle.gate_report.specs.declared.report.EndCause.{EndCause}
use Rattle.gate_report.specs.declared.report.EndCause.TheVariants as cause
use Rattle.gate_report.specs.declared.report.PipelineReport.{PipelineReport}
use Rattle.gate_report.specs.declared.report.RunReport.{RunReport}

abbrev pub cause_word : EndCause → List ℕ
cause_word cause.Unclosed = codes "open"
cause_word cause.Ended = codes "ended"
cause_word cause.Stopped = codes "stopped"
cause_word cause.Failed = codes "failed"
cause_word cause.Memory = codes "memory"

abbrev pub connection_line : List ℕ → ConnectionReport → List ℕ
connection_line name report = codes "connection " ++ name_text name ++ codes " accepted " ++ decimal report.accepted ++ codes " " ++ cause_word report.cause ++ codes "\n"

-- the line of a connection that was renewed: how many records were accepted before each renewal
abbrev pub renewed_line : List ℕ → List ℕ → List ℕ
renewed_line name [] = []
renewed_line name (n ∷ numbers) = codes "renewed " ++ name_text name ++ (flat_map spaced_number (n ∷ numbers) ++ codes "\n")

-- the lines of each connection, by number
abbrev pub connection_lines : List (List ℕ) → List ConnectionReport → List ℕ
connection_lines [] reports = []
connection_lines (name ∷ names) [] = []
connection_lines (name ∷ names) (report ∷ reports) = connection_line name report ++ (renewed_line name report.renewals ++ connection_lines names reports)

-- the numbers of the processed events of connection c
abbrev pub numbers_text : ℕ → List Stamp → List ℕ
numbers_text c stamps = flat_map spaced_number (numbers_from c stamps)

abbrev pub done_start : List ℕ → List ℕ → List ℕ → List ℕ
done_start tenant pipeline connection = codes "done " ++ name_text tenant ++ codes " " ++ name_text pipeline ++ codes " " ++ name_text connection

abbrev pub done_line : ℕ → List ℕ → List ℕ → List ℕ → List Stamp → List ℕ
done_line c tenant pipeline connection stamps = done_start tenant pipeline connection ++ (numbers_text c stamps ++ codes "\n")

-- a line for each connection that tenant t lists, among those that are numbered from c
abbrev pub done_lines : Config → ℕ → ℕ → List (List ℕ) → List ℕ → List ℕ → List Stamp → List ℕ
done_lines config t c [] tenant pipeline stamps = []
done_lines config t c (name ∷ names) tenant pipeline stamps =
    (if lists config t c then done_line c tenant pipeline name stamps else []) ++ done_lines config t (c + 1) names tenant pipeline stamps

abbrev pub pipeline_line : List ℕ → List ℕ → Bool → List ℕ
pipeline_line tenant pipeline finished = codes "pipeline " ++ name_text tenant ++ codes " " ++ name_text pipeline ++ codes " " ++ state_word finished ++ codes "\n"

-- the lines of a tenant's pipelines
abbrev pub pipeline_lines : Config → ℕ → List ℕ → List PipelineSpec → List PipelineReport → List ℕ
pipeline_lines config t tenant [] reports = []
pipeline_lines config t tenant (spec ∷ specs) [] = []
pipeline_lines config t tenant (spec ∷ specs) (report ∷ reports) =
    pipeline_line tenant spec.name report.finished ++ (done_lines config t 0 (connections_of config) tenant spec.name report.done ++ pipeline_lines config t tenant specs reports)

-- the lines of tenants that are numbered from t
abbrev pub tenant_lines : Config → ℕ → List TenantSpec → List (List PipelineReport) → List ℕ
tenant_lines config t [] reports = []
tenant_lines config t (tenant ∷ tenants) [] = []
tenant_lines config t (tenant ∷ tenants) (report ∷ reports) = pipeline_lines config t tenant.name tenant.pipelines report ++ tenant_lines config (t + 1) tenants reports

-- the text of a report
abbrev pub report_text : Config → RunReport → List ℕ
report_text config report = connection_lines (connections_of config) report.connections ++ tenant_lines config 0 (tenants_of config) report.pipelines
