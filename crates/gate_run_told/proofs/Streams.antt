-- What a run that has read its feeds to their ends prints.
use Rattle.std.proofs.Common.{◌≡◌, ◌∙◌, ◌<◌, ℕ, zero, suc, List, [], ◌∷◌, length, map, refl, sym, ap, subst, Some, arith}
use Rattle.std.specs.Prelude.{Option, None, option_map, slice_get, unwrap_or}
use Rattle.std.proofs.lemmas.Option.{slice_get-map, slice_get_within}
use Rattle.std.proofs.lemmas.List.{length-map}
use Rattle.gate_record.specs.declared.record.Record.{Record}
use Rattle.gate_report.specs.declared.report.ConnectionReport.{ConnectionReport}
use Rattle.gate_report.specs.declared.report.EndCause.{EndCause}
use Rattle.gate_report.specs.declared.report.EndCause.TheVariants.{Ended}
use Rattle.gate_source.specs.Feeds.{AreAll, Told}
use Rattle.gate_source.specs.Stops.{Note}
use Rattle.gate_pipeline.specs.States.{report_of}
use Rattle.gate_run_posts.specs.Ports.{InboxView}
use Rattle.gate_run_reader.specs.Readers.{Means}
use Rattle.gate_run.specs.Serving.{Delivers, HaveEnded, lines_of, renewals_of}
use Rattle.gate_record.specs.Entries.{beside}
use Rattle.gate_config.specs.declared.generations.Generations.{Generations}
use Rattle.gate_report.specs.declared.report.PipelineReport.{PipelineReport}
use Rattle.gate_delivery.specs.Wanted.{wanted}
use Rattle.gate_run_told.specs.Told.{AllEnded, Stream, TheReportTellsTheStreams, ended_with, in_force, in_force_of, text_of}
use Rattle.gate_run_told.proofs.Printed.{AreDone, every_text_is_told, the_same}

module _ {A : Type 0} where
  -- lists of one length with the same at each place
  alike : (xs ys : List A) → length xs ≡ length ys → ((i : ℕ) (x y : A) → slice_get xs i ≡ Some x → slice_get ys i ≡ Some y → x ≡ y) → xs ≡ ys
  alike [] [] many same = refl
  alike [] (y ∷ ys) many same = absurd (omega (arith, many))
  alike (x ∷ xs) [] many same = absurd (omega (arith, many))
  alike (x ∷ xs) (y ∷ ys) many same = ap (λ z. z ∷ xs) (same 0 x y refl refl) ∙ ap (λ zs. y ∷ zs) (alike xs ys (omega (arith, many)) (λ i. same (suc i)))

  -- what stands at a place that is there
  pub record Here (xs : List A) (i : ℕ) : Type 0 where
    pub one : A
    pub here : slice_get xs i ≡ Some one

  is_here : (xs : List A) (i : ℕ) → i < length xs → Here xs i
  is_here [] i low = absurd (omega (arith, low))
  is_here (x ∷ xs) zero low = record { one = x; here = refl }
  is_here (x ∷ xs) (suc i) low = let rest = is_here xs i (omega (arith, low)) in record { one = rest.one; here = rest.here }

here_mapped : {A B : Type 0} (f : A → B) (xs : List A) (i : ℕ) (x : A) → slice_get xs i ≡ Some x → slice_get (map f xs) i ≡ Some (f x)
here_mapped f xs i x at = slice_get-map f xs i ∙ ap (option_map f) at

counted : {A B : Type 0} (f : A → B) (rows : List (List A)) → map length (map (map f) rows) ≡ map length rows
counted f [] = refl
counted f (row ∷ rows) = ap (λ n. n ∷ map length (map (map f) rows)) (length-map row f) ∙ ap (λ ns. length row ∷ ns) (counted f rows)

-- a connection that has ended accepted all that its feed told
all_of : (cause : EndCause) (before after : Told) (lines : List Record) (faults faults' : ℕ) (note : Note) → cause ≡ Ended → Means cause before after lines faults faults' note → AreAll lines before after
all_of cause before after lines faults faults' note ended means = subst (λ k. Means k before after lines faults faults' note) ended means

told_all : (before after : Told) (lines stream : List Record) → before ≡ Some stream → AreAll lines before after → lines ≡ stream
told_all before after lines stream told all = (subst (λ b. AreAll lines b after) told all).0

ended_report : (report : ConnectionReport) (stream : Stream) → report.accepted ≡ length stream.records → report.renewals ≡ stream.renewals → report.cause ≡ Ended → report ≡ ended_with stream
ended_report report stream many renewed ended = λ i. record { accepted = many i; renewals = renewed i; cause = ended i }

module _ {F : Type 0} {gens : Generations} {to_come : F → Told} {faults : F → ℕ} {feeds feeds' : List F} {lines : List (List Record)} (streams : List Stream) {reports : List ConnectionReport} {inbox : InboxView}
    (have : HaveEnded gens to_come faults feeds feeds' lines reports inbox) (told : map to_come feeds ≡ map (λ (stream : Stream). Some stream.records) streams)
    (renewed : map (λ (report : ConnectionReport). report.renewals) reports ≡ map (λ (stream : Stream). stream.renewals) streams) (ended : AllEnded reports) where
  as_many : length lines ≡ length streams
  as_many = have.all_lines ∙ sym (length-map feeds to_come) ∙ ap length told ∙ length-map streams (λ (stream : Stream). Some stream.records)

  -- how one connection has ended
  one : (c : ℕ) (own : List Record) (report : ConnectionReport) (stream : Stream) → slice_get lines c ≡ Some own → slice_get reports c ≡ Some report → slice_get streams c ≡ Some stream →
      (own ≡ stream.records) × (report ≡ ended_with stream)
  one c own report stream at at' there =
      let low : c < length feeds = omega (arith, slice_get_within lines c own at, have.all_lines) in
      let feed = is_here feeds c low in
      let feed' = is_here feeds' c (omega (arith, low, have.feeds_back)) in
      let has = have.each c feed.one feed'.one own report feed.here feed'.here at at' in
      let cause = ended c report at' in
      let tells : to_come feed.one ≡ Some stream.records =
      the_same (to_come feed.one) (Some stream.records) (sym (here_mapped to_come feeds c feed.one feed.here) ∙ ap (λ ts. slice_get ts c) told ∙ here_mapped (λ (s : Stream). Some s.records) streams c stream there) in
      let records = told_all (to_come feed.one) (to_come feed'.one) own stream.records tells (all_of report.cause (to_come feed.one) (to_come feed'.one) own (faults feed.one) (faults feed'.one) inbox.note cause has.means) in
      let renewals : report.renewals ≡ stream.renewals =
      the_same report.renewals stream.renewals (sym (here_mapped (λ (r : ConnectionReport). r.renewals) reports c report at') ∙ ap (λ rs. slice_get rs c) renewed ∙ here_mapped (λ (s : Stream). s.renewals) streams c stream there) in
      (records, ended_report report stream (has.accepted ∙ ap length records) renewals cause)

  pub lines_are : lines ≡ map (λ (stream : Stream). stream.records) streams
  lines_are = alike lines (map (λ (stream : Stream). stream.records) streams) (as_many ∙ sym (length-map streams (λ (stream : Stream). stream.records))) (λ c own records at there.
      let low : c < length lines = slice_get_within lines c own at in
      let report = is_here reports c (omega (arith, low, have.all_lines, have.all_reports)) in
      let stream = is_here streams c (omega (arith, low, as_many)) in
      (one c own report.one stream.one at report.here stream.here).0
      ∙ the_same stream.one.records records (sym (here_mapped (λ (s : Stream). s.records) streams c stream.one stream.here) ∙ there))

  pub reports_are : reports ≡ map ended_with streams
  reports_are = alike reports (map ended_with streams) (have.all_reports ∙ sym have.all_lines ∙ as_many ∙ sym (length-map streams ended_with)) (λ c report other at there.
      let low : c < length reports = slice_get_within reports c report at in
      let own = is_here lines c (omega (arith, low, have.all_lines, have.all_reports)) in
      let stream = is_here streams c (omega (arith, low, as_many, have.all_lines, have.all_reports)) in
      (one c own.one report stream.one own.here at stream.here).1
      ∙ the_same (ended_with stream.one) other (sym (here_mapped ended_with streams c stream.one stream.here) ∙ there))

-- what the report and the lines say of a connection, its stream says
module _ (streams : List Stream) where
  by_stream : (o : Option Stream) →
      beside (unwrap_or (option_map (λ (report : ConnectionReport). report.renewals) (option_map ended_with o)) []) (unwrap_or (option_map (λ (stream : Stream). stream.records) o) [])
      ≡ unwrap_or (option_map in_force o) []
  by_stream None = refl
  by_stream (Some stream) = refl

  in_force_is : (c : ℕ) → beside (renewals_of c (map ended_with streams)) (lines_of c (map (λ (stream : Stream). stream.records) streams)) ≡ in_force_of c streams
  in_force_is c =
      ap (λ o. beside (unwrap_or (option_map (λ (report : ConnectionReport). report.renewals) o) []) (lines_of c (map (λ (stream : Stream). stream.records) streams))) (slice_get-map ended_with streams c)
      ∙ ap (λ o. beside (unwrap_or (option_map (λ (report : ConnectionReport). report.renewals) (option_map ended_with (slice_get streams c))) []) (unwrap_or o [])) (slice_get-map (λ (stream : Stream). stream.records) streams c)
      ∙ by_stream (slice_get streams c)

  pub are_done : (gens : Generations) (lines : List (List Record)) (reports : List ConnectionReport) (pipelines : List (List PipelineReport)) →
      lines ≡ map (λ (stream : Stream). stream.records) streams → reports ≡ map ended_with streams → Delivers gens lines reports pipelines → AreDone gens streams pipelines
  are_done gens lines reports pipelines told ended delivers t p report there finished c =
      delivers.whole t p c report there finished
      ∙ ap (λ rs. wanted gens t p c (beside (renewals_of c rs) (lines_of c lines))) ended
      ∙ ap (λ ls. wanted gens t p c (beside (renewals_of c (map ended_with streams)) (lines_of c ls))) told
      ∙ ap (wanted gens t p c) (in_force_is c)

pub the_report_tells_the_streams : {F : Type 0} (to_come : F → Told) (faults : F → ℕ) → TheReportTellsTheStreams to_come faults
the_report_tells_the_streams to_come faults gens feeds feeds' inbox inbox' report pipelines streams serves told renewed ended finished =
    let reports = reports_are streams serves.connections told renewed ended in
    every_text_is_told gens streams report reports
    (ap (map length) serves.reports ∙ counted report_of pipelines ∙ serves.counts)
    (are_done streams gens serves.lines report.connections report.pipelines (lines_are streams serves.connections told renewed ended) reports serves.delivers) finished
