-- What the report of a run prints if the run has read all records of its feeds and has processed them.
use Rattle.std.specs.Prelude.{◌≡◌, ℕ, ◌+◌, List, [], ◌∷◌, ◌++◌, true, Some, codes, flat_map, length, map, option_map, slice_get, unwrap_or, if◌then◌else◌}
use Rattle.gate_record.specs.declared.record.Record.{Record}
use Rattle.gate_record.specs.Entries.{beside}
use Rattle.gate_config.specs.declared.generations.Generations.{Generations}
use Rattle.gate_config.specs.declared.config.PipelineSpec.{PipelineSpec}
use Rattle.gate_config.specs.declared.config.TenantSpec.{TenantSpec}
use Rattle.gate_config.specs.Lookups.{connections_of, lists, tenants_of}
use Rattle.gate_report.specs.declared.report.ConnectionReport.{ConnectionReport}
use Rattle.gate_report.specs.declared.report.EndCause.TheVariants.{Ended}
use Rattle.gate_report.specs.declared.report.PipelineReport.{PipelineReport}
use Rattle.gate_report.specs.declared.report.RunReport.{RunReport}
use Rattle.gate_delivery.specs.Wanted.{wanted}
use Rattle.gate_line.specs.Words.{spaced_number}
use Rattle.gate_report_text.specs.ReportText.{connection_lines, done_start, pipeline_line, report_text}
use Rattle.gate_source.specs.Feeds.{Told}
use Rattle.gate_run_posts.specs.Ports.{at_pipeline, InboxView}
use Rattle.gate_run.specs.Serving.{Serves}
use Rattle.gate_pipeline.specs.States.{State}

-- the records of a connection, and how many of them came before each of its renewals
pub record Stream : Type 0 where
  pub records : List Record
  pub renewals : List ℕ

-- the records, each with the generation in force at it
abbrev pub in_force : Stream → List (ℕ × Record)
in_force stream = beside stream.renewals stream.records

-- the same for connection c
abbrev pub in_force_of : ℕ → List Stream → List (ℕ × Record)
in_force_of c streams = unwrap_or (option_map in_force (slice_get streams c)) []

-- the report of a connection that accepted all records of its stream and was renewed as the stream says
abbrev pub ended_with : Stream → ConnectionReport
ended_with stream = record { accepted = length stream.records; renewals = stream.renewals; cause = Ended }

-- a line for each connection that tenant t lists, among those that are numbered from c, with the numbers of the records that pipeline p's
-- rules select
abbrev pub wanted_lines : Generations → List Stream → (t p c : ℕ) → List (List ℕ) → List ℕ → List ℕ → List ℕ
wanted_lines gens streams t p c [] tenant pipeline = []
wanted_lines gens streams t p c (name ∷ names) tenant pipeline =
    (if lists gens.first t c then done_start tenant pipeline name ++ (flat_map spaced_number (wanted gens t p c (in_force_of c streams)) ++ codes "\n") else []) ++ wanted_lines gens streams t p (c + 1) names tenant pipeline

-- the lines of a tenant's pipelines that are numbered from p, each of which is finished
abbrev pub finished_lines : Generations → List Stream → (t p : ℕ) → List ℕ → List PipelineSpec → List ℕ
finished_lines gens streams t p tenant [] = []
finished_lines gens streams t p tenant (spec ∷ specs) =
    pipeline_line tenant spec.name true ++ (wanted_lines gens streams t p 0 (connections_of gens.first) tenant spec.name ++ finished_lines gens streams t (p + 1) tenant specs)

-- the lines of tenants that are numbered from t
abbrev pub all_lines : Generations → List Stream → ℕ → List TenantSpec → List ℕ
all_lines gens streams t [] = []
all_lines gens streams t (tenant ∷ tenants) = finished_lines gens streams t 0 tenant.name tenant.pipelines ++ all_lines gens streams (t + 1) tenants

-- the report, as text, of a run that has read and processed these streams, which are numbered by connection
abbrev pub text_of : Generations → List Stream → List ℕ
text_of gens streams = connection_lines (connections_of gens.first) (map ended_with streams) ++ all_lines gens streams 0 (tenants_of gens.first)

-- every pipeline met its end mark
abbrev pub AllFinished : List (List PipelineReport) → Type 0
AllFinished pipelines = (t p : ℕ) (pipeline : PipelineReport) → at_pipeline t p pipelines ≡ Some pipeline → pipeline.finished ≡ true

-- every connection's stream was read to its end
abbrev pub AllEnded : List ConnectionReport → Type 0
AllEnded reports = (c : ℕ) (report : ConnectionReport) → slice_get reports c ≡ Some report → report.cause ≡ Ended

-- Suppose that a run has read feeds to their ends, that the feeds told the records of these streams, that generations were renewed as the
-- streams say, and that every pipeline is finished. Then the run's report prints what the streams alone say, whatever the schedule of its
-- threads was.
abbrev pub TheReportTellsTheStreams : {F : Type 0} → (F → Told) → (F → ℕ) → Type 0
TheReportTellsTheStreams {F} to_come faults =
    (gens : Generations) (feeds feeds' : List F) (inbox inbox' : InboxView) (report : RunReport) (pipelines : List (List State)) (streams : List Stream) →
    Serves gens to_come faults feeds feeds' inbox inbox' report pipelines →
    map to_come feeds ≡ map (λ (stream : Stream). Some stream.records) streams →
    map (λ (connection : ConnectionReport). connection.renewals) report.connections ≡ map (λ (stream : Stream). stream.renewals) streams →
    AllEnded report.connections → AllFinished report.pipelines →
    report_text gens.first report ≡ text_of gens streams
