-- The report of a run that has read everything prints what the records say.
use Rattle.std.proofs.Common.{◌≡◌, ◌∙◌, ◌++◌, ◌+◌, ◌<◌, ℕ, zero, suc, List, [], ◌∷◌, true, length, map, refl, sym, ap, subst, Some, arith, if◌then◌else◌}
use Rattle.std.specs.Prelude.{codes, flat_map, slice_get, option_map, option_and_then, unwrap_or}
use Rattle.std.specs.List.{range_with_len}
use Rattle.std.proofs.lemmas.Option.{slice_get-map, slice_get_within}
use Rattle.std.proofs.lemmas.List.FromFn.{length-range_with_len}
use Rattle.std.proofs.lemmas.List.{length-map}
use Rattle.gate_record.specs.declared.ids.Stamp.{Stamp}
use Rattle.gate_config.specs.declared.generations.Generations.{Generations}
use Rattle.gate_config.specs.declared.config.PipelineSpec.{PipelineSpec}
use Rattle.gate_config.specs.declared.config.TenantSpec.{TenantSpec}
use Rattle.gate_config.specs.Lookups.{connections_of, lists, pipelines_of, tenants_of}
use Rattle.gate_report.specs.declared.report.PipelineReport.{PipelineReport}
use Rattle.gate_report.specs.declared.report.RunReport.{RunReport}
use Rattle.gate_record.specs.Stamps.{numbers_from}
use Rattle.gate_delivery.specs.Wanted.{wanted}
use Rattle.gate_line.specs.Words.{spaced_number}
use Rattle.gate_report_text.specs.ReportText.{connection_lines, done_lines, done_start, pipeline_line, pipeline_lines, report_text, tenant_lines}
use Rattle.gate_run_posts.specs.Ports.{at_pipeline, pipeline_counts}
use Rattle.gate_run_told.specs.Told.{AllFinished, Stream, all_lines, ended_with, finished_lines, in_force_of, text_of, wanted_lines}

pub the_same : {X : Type 0} (x y : X) → Some x ≡ Some y → x ≡ y
the_same x y e = cc

number_here : (a m i : ℕ) → i < m → slice_get (range_with_len a m) i ≡ Some (a + i)
number_here a zero i low = absurd (omega (arith, low))
number_here a (suc m) zero low = ap Some (omega arith)
number_here a (suc m) (suc i) low = number_here (a + 1) m i (omega (arith, low)) ∙ ap Some (omega arith)

module _ (gens : Generations) (streams : List Stream) where
  -- what was processed from each connection are the wanted numbers
  abbrev AreWanted : (t p : ℕ) → List Stamp → Type 0
  AreWanted t p stamps = (c : ℕ) → numbers_from c stamps ≡ wanted gens t p c (in_force_of c streams)

  of_connections : (t p c : ℕ) (names : List (List ℕ)) (tenant pipeline : List ℕ) (stamps : List Stamp) → AreWanted t p stamps → done_lines gens.first t c names tenant pipeline stamps ≡ wanted_lines gens streams t p c names tenant pipeline
  of_connections t p c [] tenant pipeline stamps all = refl
  of_connections t p c (name ∷ names) tenant pipeline stamps all =
      ap (λ ns. (if lists gens.first t c then done_start tenant pipeline name ++ (flat_map spaced_number ns ++ codes "\n") else []) ++ done_lines gens.first t (c + 1) names tenant pipeline stamps) (all c)
      ∙ ap (λ rest. (if lists gens.first t c then done_start tenant pipeline name ++ (flat_map spaced_number (wanted gens t p c (in_force_of c streams)) ++ codes "\n") else []) ++ rest) (of_connections t p (c + 1) names tenant pipeline stamps all)

  -- and so wherever a pipeline is finished
  abbrev pub AreDone : List (List PipelineReport) → Type 0
  AreDone pipelines = (t p : ℕ) (report : PipelineReport) → at_pipeline t p pipelines ≡ Some report → report.finished ≡ true → AreWanted t p report.done

  abbrev IsWhole : (t p : ℕ) → PipelineReport → Type 0
  IsWhole t p report = (report.finished ≡ true) × AreWanted t p report.done

  abbrev AreWhole : (t p : ℕ) → List PipelineReport → Type 0
  AreWhole t p reports = (i : ℕ) (report : PipelineReport) → slice_get reports i ≡ Some report → IsWhole t (p + i) report

  of_pipelines : (t p : ℕ) (tenant : List ℕ) (specs : List PipelineSpec) (reports : List PipelineReport) → length reports ≡ length specs → AreWhole t p reports → pipeline_lines gens.first t tenant specs reports ≡ finished_lines gens streams t p tenant specs
  of_pipelines t p tenant [] reports many whole = refl
  of_pipelines t p tenant (spec ∷ specs) [] many whole = absurd (omega (arith, many))
  of_pipelines t p tenant (spec ∷ specs) (report ∷ reports) many whole =
      let own : IsWhole t p report = subst (λ q. IsWhole t q report) (omega arith) (whole 0 report refl) in
      let rest : AreWhole t (p + 1) reports = λ i r at. subst (λ q. IsWhole t q r) (omega arith) (whole (suc i) r at) in
      ap (λ finished. pipeline_line tenant spec.name finished ++ (done_lines gens.first t 0 (connections_of gens.first) tenant spec.name report.done ++ pipeline_lines gens.first t tenant specs reports)) own.0
      ∙ ap (λ done. pipeline_line tenant spec.name true ++ (done ++ pipeline_lines gens.first t tenant specs reports)) (of_connections t p 0 (connections_of gens.first) tenant spec.name report.done own.1)
      ∙ ap (λ more. pipeline_line tenant spec.name true ++ (wanted_lines gens streams t p 0 (connections_of gens.first) tenant spec.name ++ more)) (of_pipelines t (p + 1) tenant specs reports (omega (arith, many)) rest)

  -- a tenant's reports are as many as its pipelines, and each is whole
  pub record IsTenant (t : ℕ) (tenant : TenantSpec) (reports : List PipelineReport) : Type 0 where
    pub many : length reports ≡ length tenant.pipelines
    pub whole : AreWhole t 0 reports

  abbrev AreTenants : ℕ → List TenantSpec → List (List PipelineReport) → Type 0
  AreTenants t tenants rows = (i : ℕ) (tenant : TenantSpec) (reports : List PipelineReport) → slice_get tenants i ≡ Some tenant → slice_get rows i ≡ Some reports → IsTenant (t + i) tenant reports

  of_tenants : (t : ℕ) (tenants : List TenantSpec) (rows : List (List PipelineReport)) → length rows ≡ length tenants → AreTenants t tenants rows → tenant_lines gens.first t tenants rows ≡ all_lines gens streams t tenants
  of_tenants t [] rows many each = refl
  of_tenants t (tenant ∷ tenants) [] many each = absurd (omega (arith, many))
  of_tenants t (tenant ∷ tenants) (reports ∷ rows) many each =
      let own : IsTenant t tenant reports = subst (λ u. IsTenant u tenant reports) (omega arith) (each 0 tenant reports refl refl) in
      let rest : AreTenants (t + 1) tenants rows = λ i x r at at'. subst (λ u. IsTenant u x r) (omega arith) (each (suc i) x r at at') in
      ap (λ front. front ++ tenant_lines gens.first (t + 1) tenants rows) (of_pipelines t 0 tenant.name tenant.pipelines reports own.many own.whole)
      ∙ ap (λ more. finished_lines gens streams t 0 tenant.name tenant.pipelines ++ more) (of_tenants (t + 1) tenants rows (omega (arith, many)) rest)

  module _ (pipelines : List (List PipelineReport)) (counts : map length pipelines ≡ pipeline_counts gens.first) (done : AreDone pipelines) (finished : AllFinished pipelines) where
    abbrev tenants : ℕ
    tenants = length (tenants_of gens.first)

    rows : length pipelines ≡ tenants
    rows = sym (length-map pipelines length) ∙ ap length counts ∙ length-map (range_with_len 0 tenants) (λ t. length (pipelines_of gens.first t)) ∙ length-range_with_len 0 tenants

    row : (t : ℕ) (reports : List PipelineReport) → slice_get pipelines t ≡ Some reports → length reports ≡ length (pipelines_of gens.first t)
    row t reports at =
        let low : t < tenants = omega (arith, slice_get_within pipelines t reports at, rows) in
        the_same (length reports) (length (pipelines_of gens.first t))
        (sym (slice_get-map length pipelines t ∙ ap (option_map length) at)
        ∙ ap (λ ns. slice_get ns t) counts
        ∙ slice_get-map (λ i. length (pipelines_of gens.first i)) (range_with_len 0 tenants) t
        ∙ ap (option_map (λ i. length (pipelines_of gens.first i))) (number_here 0 tenants t low ∙ ap Some (omega arith)))

    each : AreTenants 0 (tenants_of gens.first) pipelines
    each t tenant reports at at' =
        let specs : pipelines_of gens.first t ≡ tenant.pipelines = ap (λ o. unwrap_or (option_map (λ (x : TenantSpec). x.pipelines) o) []) at in
        let there : (p : ℕ) (report : PipelineReport) → slice_get reports p ≡ Some report → at_pipeline t p pipelines ≡ Some report = λ p report here. ap (option_and_then (λ (rs : List PipelineReport). slice_get rs p)) at' ∙ here in
        let own : IsTenant t tenant reports = record {
          many = row t reports at' ∙ ap length specs;
          whole = λ p report here. subst (λ q. IsWhole t q report) (omega arith) (finished t p report (there p report here), done t p report (there p report here) (finished t p report (there p report here)));
        } in subst (λ u. IsTenant u tenant reports) (omega arith) own

    pub printed : tenant_lines gens.first 0 (tenants_of gens.first) pipelines ≡ all_lines gens streams 0 (tenants_of gens.first)
    printed = of_tenants 0 (tenants_of gens.first) pipelines rows each

pub every_text_is_told : (gens : Generations) (streams : List Stream) (report : RunReport) →
    report.connections ≡ map ended_with streams → map length report.pipelines ≡ pipeline_counts gens.first → AreDone gens streams report.pipelines → AllFinished report.pipelines →
    report_text gens.first report ≡ text_of gens streams
every_text_is_told gens streams report connections counts done finished =
    ap (λ cs. connection_lines (connections_of gens.first) cs ++ tenant_lines gens.first 0 (tenants_of gens.first) report.pipelines) connections
    ∙ ap (λ text. connection_lines (connections_of gens.first) (map ended_with streams) ++ text) (printed gens streams report.pipelines counts done finished)
