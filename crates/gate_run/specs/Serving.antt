-- What is promised of a run of threads once all have returned.
use Rattle.std.specs.Prelude.{◌≡◌, ◌<◌, ◌≤◌, ℕ, List, [], All, true, Option, Some, length, map, option_map, slice_get, unwrap_or}
use Rattle.std.specs.List.{filter_map}
use Rattle.gate_record.specs.declared.ids.Stamp.{Stamp}
use Rattle.gate_record.specs.declared.record.Record.{Record}
use Rattle.gate_record.specs.Entries.{beside}
use Rattle.gate_record.specs.Prefixes.{IsPrefixOf}
use Rattle.gate_config.specs.declared.config.Config.{Config}
use Rattle.gate_config.specs.declared.generations.Generations.{Generations}
use Rattle.gate_config.specs.Generations.{count_of}
use Rattle.gate_config.specs.Lookups.{lists}
use Rattle.gate_items.specs.declared.action.Action.{Action}
use Rattle.gate_pipeline.specs.Histories.{AreProcessed, History, triggering}
use Rattle.gate_pipeline.specs.States.{State}
use Rattle.gate_report.specs.declared.report.ConnectionReport.{ConnectionReport}
use Rattle.gate_report.specs.declared.report.PipelineReport.{PipelineReport}
use Rattle.gate_report.specs.declared.report.RunReport.{RunReport}
use Rattle.gate_record.specs.Stamps.{numbers_from}
use Rattle.gate_delivery.specs.Wanted.{asked_among, wanted}
use Rattle.gate_source.specs.Feeds.{AreFirst, Told}
use Rattle.gate_source.specs.Sources.{NeverFalls}
use Rattle.gate_run_reader.specs.Asked.{AreKnown}
use Rattle.gate_run_posts.specs.Asked.{KnowsStill}
use Rattle.gate_pipeline.specs.States.{report_of}
use Rattle.gate_run_posts.specs.Ports.{InboxEnds, InboxView, IsInboxFor, at_pipeline, pipeline_counts}
use Rattle.gate_run_reader.specs.Readers.{Means, is_closed}
use Rattle.gate_run_worker.specs.Workers.{TookMore}

-- the records of connection c
abbrev pub lines_of : ℕ → List (List Record) → List Record
lines_of c lines = unwrap_or (slice_get lines c) []

-- how many records connection c had accepted before each of its renewals
abbrev pub renewals_of : ℕ → List ConnectionReport → List ℕ
renewals_of c reports = unwrap_or (option_map (λ (report : ConnectionReport). report.renewals) (slice_get reports c)) []

-- These records of a connection were accepted, and its report says how many they are, how many came before each renewal, and why there are
-- no more. They are the first of those that its feed had still to tell. The feed is given by what it tells before and after, and by how
-- many faults it had answered before and after.
pub record HasEnded (gens : Generations) (before after : Told) (faults faults' : ℕ) (lines : List Record) (report : ConnectionReport) (inbox : InboxView) : Type 0 where
  pub first : AreFirst lines before
  pub accepted : report.accepted ≡ length lines
  pub never_fall : NeverFalls report.renewals
  pub within : All (λ m. m ≤ report.accepted) report.renewals
  -- each renewal is of a generation after the first, and the inbox has a note of that generation's cell
  pub few : length report.renewals < count_of gens
  pub asked_for : length report.renewals ≤ length inbox.asked
  pub means : Means report.cause before after lines faults faults' inbox.note

-- The feeds came back in order, one for each connection, and each connection has ended.
pub record HaveEnded {F : Type 0} (gens : Generations) (to_come : F → Told) (faults : F → ℕ) (feeds feeds' : List F) (lines : List (List Record)) (reports : List ConnectionReport) (inbox : InboxView) : Type 0 where
  pub feeds_back : length feeds' ≡ length feeds
  pub all_lines : length lines ≡ length feeds
  pub all_reports : length reports ≡ length feeds
  pub each : (c : ℕ) (feed feed' : F) (own : List Record) (report : ConnectionReport) → slice_get feeds c ≡ Some feed → slice_get feeds' c ≡ Some feed' → slice_get lines c ≡ Some own → slice_get reports c ≡ Some report →
      HasEnded gens (to_come feed) (to_come feed') (faults feed) (faults feed') own report inbox

-- What each pipeline has processed of the accepted records is, connection by connection, a prefix of what its rules select of them, each by
-- the generation in force at it, and all of that where the pipeline is finished.
pub record Delivers (gens : Generations) (lines : List (List Record)) (connections : List ConnectionReport) (pipelines : List (List PipelineReport)) : Type 0 where
  pub in_order : (t p c : ℕ) (pipeline : PipelineReport) → at_pipeline t p pipelines ≡ Some pipeline → IsPrefixOf (numbers_from c pipeline.done) (wanted gens t p c (beside (renewals_of c connections) (lines_of c lines)))
  pub whole : (t p c : ℕ) (pipeline : PipelineReport) → at_pipeline t p pipelines ≡ Some pipeline → pipeline.finished ≡ true → numbers_from c pipeline.done ≡ wanted gens t p c (beside (renewals_of c connections) (lines_of c lines))

-- A pipeline has processed what its worker took. Its triggers are what the accepted records of their stamps ask for. Its management events
-- and results are just those that the inbox's seats took meanwhile.
pub record HasProcessed (config : Config) (t p : ℕ) (lines : List (List Record)) (before after : InboxEnds) (state : State) : Type 0 where
  pub past : History
  pub now : past.state ≡ state
  pub processed : AreProcessed config t p past
  pub triggers : (i : ℕ) (stamp : Option Stamp) (action : Action) → slice_get (filter_map triggering past.processed) i ≡ Some (stamp, action) → asked_among config t p (λ c. lines_of c lines) stamp ≡ Some action
  pub management : TookMore before.management past.management after.management
  pub results : TookMore before.results past.results after.results

-- All that is promised of a run that has returned, by the feeds and the inbox before and after, the report, and the pipelines that come
-- back.
pub record Serves {F : Type 0} (gens : Generations) (to_come : F → Told) (faults : F → ℕ) (feeds feeds' : List F) (inbox inbox' : InboxView) (report : RunReport) (pipelines : List (List State)) : Type 0 where
  -- the records that each connection accepted
  pub lines : List (List Record)
  pub connections : HaveEnded gens to_come faults feeds feeds' lines report.connections inbox'
  pub delivers : Delivers gens lines report.connections report.pipelines
  -- a pipeline is finished only where the end mark of each connection that its tenant lists was put
  pub behind_marks : (t p c : ℕ) (pipeline : PipelineReport) (connection : ConnectionReport) → at_pipeline t p report.pipelines ≡ Some pipeline → pipeline.finished ≡ true → lists gens.first t c ≡ true → slice_get report.connections c ≡ Some connection →
      is_closed connection.cause ≡ true
  pub reports : report.pipelines ≡ map (map report_of) pipelines
  pub processes : (t p : ℕ) (ends ends' : InboxEnds) (state : State) → at_pipeline t p inbox.pipelines ≡ Some ends → at_pipeline t p inbox'.pipelines ≡ Some ends' → at_pipeline t p pipelines ≡ Some state → HasProcessed gens.first t p lines ends ends' state
  -- there is a pipeline for each one of the configuration
  pub counts : map length pipelines ≡ pipeline_counts gens.first
  pub inbox_for : IsInboxFor gens.first inbox'
  pub cell : inbox'.note.cell ≡ inbox.note.cell
  -- if the inbox knew a cause to stop, it knows that cause still
  pub still : KnowsStill inbox.note inbox'.note
  -- The cells of the generations after the first are the same. The inbox has notes of the first of them, no fewer than before, and all of
  -- them know that their generation was asked for
  pub cells : inbox'.cells ≡ inbox.cells
  pub known : AreKnown inbox'.cells inbox'.asked
  pub no_fewer : length inbox.asked ≤ length inbox'.asked
