-- What a reader's steps keep.
use Rattle.std.proofs.Common.{◌≡◌, ◌∙◌, refl, sym, ap, subst, ℕ, ◌+◌, ◌<◌, List, length, [], ◌∷◌, ◌++◌, Bool, true, false, Some, None, inl, inr, append-nil, append_assoc, if◌then◌else◌}
use Rattle.std.specs.Global.{Vec}
use Rattle.std.specs.Prelude.{◌⊎◌, IfNone, Option}
use Rattle.std.proofs.lemmas.List.{length-append, length-map, map-append}
use Rattle.gate_record.specs.declared.record.Record.{Record}
use Rattle.gate_record.specs.declared.transit.ConnEntry.{ConnEntry}
use Rattle.gate_record.specs.declared.transit.ConnEntry.TheVariants as entry
use Rattle.gate_record.specs.Entries.{AreEntriesOf, beside}
use Rattle.gate_queue.specs.Seats.{SenderSeat, with_put}
use Rattle.gate_source.specs.Sources.{AcceptedAreNumbered, AreNumbered, HasAccepted, State, accepted, accepts, begins, renewed, renews}
use Rattle.gate_source.specs.Stops.{Note}
use Rattle.gate_report.specs.declared.report.EndCause.{EndCause}
use Rattle.gate_report.specs.declared.report.EndCause.TheVariants.{Unclosed, Ended, Stopped, Failed, Memory}
use Rattle.gate_source.specs.declared.feed.FeedStep.TheVariants as step
use Rattle.gate_source.specs.Feeds.{AreAll, AreFirst, Steps, Told}
use Rattle.gate_source.specs.Inner.Feeds.{Leaves}
use Rattle.gate_run_reader.specs.declared.reader.ReaderEnd.{ReaderEnd}
use Rattle.gate_run_reader.specs.declared.running.RunningReader.{RunningReader}
use Rattle.gate_run_reader.specs.declared.running.Renewal.{Renewal}
use Rattle.gate_run_reader.specs.Asked.{AreKnown, IsNext}
use Rattle.gate_run_reader.specs.Readers.{Means, is_closed, HasRead, counts_of, notes_of}
use Rattle.gate_run_reader.specs.Inner.Readers.{Closes, Continues, CutsShort, IsReading, TakesIn}
use Rattle.gate_run_threads.specs.Seats.{seat_of}
use Rattle.gate_run_reader.proofs.Asking.{known_more, none_known}

leaves_first : (before mid : Told) (lines : List Record) → Leaves before lines mid → AreFirst lines before
leaves_first None mid lines left = tt
leaves_first (Some all) mid lines (rest, is, whole) = (rest, whole)

leaves_more : (before mid after : Told) (lines : List Record) (line : Record) → Leaves before lines mid → Steps mid (step.Got line) after → Leaves before (lines ++ line ∷ []) after
leaves_more None mid after lines line left steps = tt
leaves_more (Some all) mid after lines line (rest, is, whole) steps =
    let (more, first, left) = subst (λ m. Steps m (step.Got line) after) is steps in
    (more, left, append_assoc lines (line ∷ []) more ∙ ap (λ xs. lines ++ xs) (sym first) ∙ whole)

leaves_same : (before mid after : Told) (lines : List Record) → Leaves before lines mid → Steps mid step.Pending after → Leaves before lines after
leaves_same None mid after lines left steps = tt
leaves_same (Some all) mid after lines (rest, is, whole) steps = (rest, subst (λ m. Steps m step.Pending after) is steps, whole)

leaves_none : (before mid after : Told) (lines : List Record) → Leaves before lines mid → Steps mid step.Ended after → AreAll lines before after
leaves_none None mid after lines left steps = tt
leaves_none (Some all) mid after lines (rest, is, whole) steps =
    let (none, left) = subst (λ m. Steps m step.Ended after) is steps in
    (sym (append-nil lines) ∙ ap (λ xs. lines ++ xs) (sym none) ∙ whole, left)

module _ {tail : SenderSeat ConnEntry} {generations : ℕ} {cells : List ℕ} where
  pub reading_begins : (before : Told) (source : State) (renewals : List Renewal) → source.seat ≡ tail → source.count ≡ 0 → source.generation ≡ 0 → renewals ≡ [] → IsReading before before tail generations cells source renewals
  reading_begins before source renewals seat count generation none = record {
    lines = [];
    has_accepted = subst (λ rs. HasAccepted tail generations source [] (counts_of rs)) (sym none) (subst (λ s. HasAccepted tail generations s [] []) (sym (λ i. record { seat = seat i; count = count i; generation = generation i })) begins);
    counted = count;
    known = subst (λ rs. AreKnown cells (notes_of rs)) (sym none) (none_known cells);
    leaves = by before;
  }
    where
      by : (told : Told) → Leaves told [] told
      by None = tt
      by (Some all) = (all, refl, refl)

  -- all is as it was
  pub reading_stays : {before after : Told} {source source' : State} {renewals renewals' : List Renewal} → IsReading before after tail generations cells source renewals → source' ≡ source → renewals' ≡ renewals → IsReading before after tail generations cells source' renewals'
  reading_stays {before} {after} {source} {source'} {renewals} {renewals'} was same same' =
      subst (λ (x : State × List Renewal). IsReading before after tail generations cells x.0 x.1) (sym (λ i. (same i, same' i))) was

  -- the mark of the next generation was put, and its note and the count are kept
  pub reading_renews : {before after : Told} {source source' : State} {renewals renewals' : List Renewal} (one : Renewal) → IsReading before after tail generations cells source renewals → IsNext cells (notes_of renewals) one.note → source.generation + 1 < generations → source' ≡ renewed source →
      one.accepted ≡ source'.count → renewals' ≡ renewals ++ one ∷ [] → IsReading before after tail generations cells source' renewals'
  reading_renews {before} {after} {source} {source'} {renewals} {renewals'} one was next later put count more =
      let counts : counts_of renewals' ≡ counts_of renewals ++ length was.lines ∷ [] = ap counts_of more ∙ map-append (λ (r : Renewal). r.accepted) renewals (one ∷ []) ∙ ap (λ n. counts_of renewals ++ n ∷ []) (count ∙ ap (λ (s : State). s.count) put ∙ was.counted) in
      let notes : notes_of renewals' ≡ notes_of renewals ++ one.note ∷ [] = ap notes_of more ∙ map-append (λ (r : Renewal). r.note) renewals (one ∷ []) in
      record {
        lines = was.lines;
        has_accepted = subst (λ (x : State × List ℕ). HasAccepted tail generations x.0 was.lines x.1) (sym (λ i. (put i, counts i))) (renews was.has_accepted later);
        counted = ap (λ (s : State). s.count) put ∙ was.counted;
        known = subst (AreKnown cells) (sym notes) (known_more cells (notes_of renewals) one.note was.known next);
        leaves = was.leaves;
      }

  -- one more record was accepted
  pub read_more : {before mid after : Told} {source source' : State} {renewals renewals' : List Renewal} (line : Record) → IsReading before mid tail generations cells source renewals → Steps mid (step.Got line) after → source' ≡ accepted source line → renewals' ≡ renewals → IsReading before after tail generations cells source' renewals'
  read_more {before} {mid} {after} {source} {source'} {renewals} {renewals'} line was steps more same = record {
    lines = was.lines ++ line ∷ [];
    has_accepted = subst (λ (x : State × List Renewal). HasAccepted tail generations x.0 (was.lines ++ line ∷ []) (counts_of x.1)) (sym (λ i. (more i, same i))) (accepts line was.has_accepted);
    counted = ap (λ (s : State). s.count) more ∙ ap (λ n. n + 1) was.counted ∙ sym (length-append was.lines (line ∷ []));
    known = subst (λ rs. AreKnown cells (notes_of rs)) (sym same) was.known;
    leaves = leaves_more before mid after was.lines line was.leaves steps;
  }

  -- nothing came
  pub read_same : {before mid after : Told} {source source' : State} {renewals renewals' : List Renewal} → IsReading before mid tail generations cells source renewals → Steps mid step.Pending after → source' ≡ source → renewals' ≡ renewals → IsReading before after tail generations cells source' renewals'
  read_same {before} {mid} {after} {source} {source'} {renewals} {renewals'} was steps same same' = record {
    lines = was.lines;
    has_accepted = subst (λ (x : State × List Renewal). HasAccepted tail generations x.0 was.lines (counts_of x.1)) (sym (λ i. (same i, same' i))) was.has_accepted;
    counted = ap (λ (s : State). s.count) same ∙ was.counted;
    known = subst (λ rs. AreKnown cells (notes_of rs)) (sym same') was.known;
    leaves = leaves_same before mid after was.lines was.leaves steps;
  }

  pub means_ended : {before mid : Told} (after : Told) {source : State} {renewals : List Renewal} (faults faults' : ℕ) (note : Note) (was : IsReading before mid tail generations cells source renewals) → Steps mid step.Ended after → Means Ended before after was.lines faults faults' note
  means_ended {before} {mid} after faults faults' note was steps = leaves_none before mid after was.lines was.leaves steps

  pub has_read : {before mid : Told} {source source' : State} {renewals renewals' : List Renewal} (after : Told) (faults faults' : ℕ) (tail' : SenderSeat ConnEntry) (count : ℕ) (cause cause' : EndCause) (note note' : Note) →
      AcceptedAreNumbered → tail.put ≡ [] → 0 < generations → (was : IsReading before mid tail generations cells source renewals) → source' ≡ source → renewals' ≡ renewals → Closes cause source'.seat cause' tail' → count ≡ source'.count → Means cause before after was.lines faults faults' note' → note'.cell ≡ note.cell →
      HasRead before after faults faults' tail tail' generations cells count renewals' cause' note note'
  has_read {before} {mid} {source} {source'} {renewals} {renewals'} after faults faults' tail' count cause cause' note note' numbered empty some was same same' closes counts means cell =
      let all = numbered tail generations source was.lines (counts_of renewals) empty some was.has_accepted in
      let marks : source.generation ≡ length renewals = all.marks ∙ length-map renewals (λ (r : Renewal). r.accepted) in
      subst (λ rs. HasRead before after faults faults' tail tail' generations cells count rs cause' note note') (sym same') (record {
        lines = was.lines;
        first = leaves_first before mid was.lines was.leaves;
        counted = counts ∙ ap (λ (s : State). s.count) same ∙ all.count;
        put = subst (λ put. AreEntriesOf put (beside (counts_of renewals) was.lines) (length renewals) (is_closed cause')) (sym (ap (λ (t : SenderSeat ConnEntry). t.put) closes.left ∙ ap (λ (s : State). (if is_closed cause' then with_put s.seat entry.End else s.seat).put) same)) (put_by all marks (is_closed cause'));
        rising = all.rising;
        within = all.within;
        few_renewals = subst (λ n. n < generations) (length-map renewals (λ (r : Renewal). r.accepted)) all.few;
        known = was.known;
        seat = ap seat_of closes.left ∙ ap (λ (s : State). seat_of (if is_closed cause' then with_put s.seat entry.End else s.seat)) same ∙ seat_by all (is_closed cause');
        means = means_by closes.for_it;
        cell = cell;
      })
    where
      put_by : AreNumbered tail generations source was.lines (counts_of renewals) → source.generation ≡ length renewals → (b : Bool) → AreEntriesOf (if b then with_put source.seat entry.End else source.seat).put (beside (counts_of renewals) was.lines) (length renewals) b
      put_by all marks true = subst (λ g. AreEntriesOf (with_put source.seat entry.End).put (beside (counts_of renewals) was.lines) g true) marks all.ended
      put_by all marks false = subst (λ g. AreEntriesOf source.seat.put (beside (counts_of renewals) was.lines) g false) marks all.put

      seat_by : AreNumbered tail generations source was.lines (counts_of renewals) → (b : Bool) → seat_of (if b then with_put source.seat entry.End else source.seat) ≡ seat_of tail
      seat_by all true = λ i. (all.queue i, all.sender i)
      seat_by all false = λ i. (all.queue i, all.sender i)

      means_by : (cause' ≡ cause) ⊎ (cause' ≡ Memory) → Means cause' before after was.lines faults faults' note'
      means_by (inl e) = subst (λ c. Means c before after was.lines faults faults' note') (sym e) means
      means_by (inr e) = subst (λ c. Means c before after was.lines faults faults' note') (sym e) tt

-- where a look let the reading go on, and then the record was accepted, that record is taken in
pub takes_in : {generations : ℕ} {cells : List ℕ} (before mid now : RunningReader) (refused : Option EndCause) (line : Record) → Continues generations cells before mid → IfNone refused (now.source ≡ accepted mid.source line) → now.renewals ≡ mid.renewals → IfNone refused (TakesIn generations cells line before now)
takes_in before mid now (Some cause) line continues took same = tt
takes_in before mid now None line continues took same = λ told told' told'' tail steps was. read_more line (continues told told' tail was) steps took (ap (λ (v : Vec Renewal). v.items) same)

-- whatever cuts reading short means this
pub cut_means : (cause : EndCause) (before after : Told) (lines : List Record) (faults faults' : ℕ) (note : Note) → CutsShort cause note → Means cause before after lines faults faults' note
cut_means Memory before after lines faults faults' note cuts = tt
cut_means Stopped before after lines faults faults' note cuts = cuts
cut_means Ended before after lines faults faults' note cuts = absurd cuts
cut_means Failed before after lines faults faults' note cuts = absurd cuts
cut_means Unclosed before after lines faults faults' note cuts = absurd cuts

module _ {F : Type 0} (to_come : F → Told) (faults : F → ℕ) (feed feed' : F) (tail : SenderSeat ConnEntry) (generations : ℕ) (cells : List ℕ) (reading : RunningReader) (cause : EndCause) (note : Note) (end : ReaderEnd F) where
  -- what a reader that returns did, from what it did while it read, and from how it ended
  pub reading_ends : {mid : Told} → AcceptedAreNumbered → tail.put ≡ [] → 0 < generations → (was : IsReading (to_come feed) mid tail generations cells reading.source reading.renewals.items) → reading.note.cell ≡ note.cell →
      Means cause (to_come feed) (to_come feed') was.lines (faults feed) (faults feed') reading.note →
      end.feed ≡ feed' → end.count ≡ reading.source.count → Closes cause reading.source.seat end.cause end.tail → end.renewals.items ≡ reading.renewals.items → end.note ≡ reading.note →
      HasRead (to_come feed) (to_come end.feed) (faults feed) (faults end.feed) tail end.tail generations cells end.count end.renewals.items end.cause note end.note
  reading_ends numbered empty some was cell means fed counts closes kept noted =
      subst (λ (x : F × Note). HasRead (to_come feed) (to_come x.0) (faults feed) (faults x.0) tail end.tail generations cells end.count end.renewals.items end.cause note x.1) (sym (λ i. (fed i, noted i)))
      (has_read (to_come feed') (faults feed) (faults feed') end.tail end.count cause end.cause note reading.note numbered empty some was refl kept closes counts means cell)
