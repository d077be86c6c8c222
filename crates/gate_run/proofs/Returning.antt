-- What is known of the seats that came back, from how threads were seated and from what they did.
use Rattle.std.proofs.Common.{◌≡◌, ◌∙◌, refl, sym, ap, subst, ℕ, zero, suc, ◌<◌, List, [], ◌∷◌, length, map, Some, arith}
use Rattle.std.specs.Prelude.{All, slice_get}
use Rattle.std.specs.List.{range_with_len}
use Rattle.std.proofs.lemmas.Option.{slice_get_within}
use Rattle.gate_record.specs.declared.transit.ConnEntry.{ConnEntry}
use Rattle.gate_record.specs.declared.transit.PipelineItem.{PipelineItem}
use Rattle.gate_record.specs.declared.transit.TenantItem.{TenantItem}
use Rattle.gate_config.specs.declared.config.Config.{Config}
use Rattle.gate_config.specs.declared.generations.Generations.{Generations}
use Rattle.gate_config.specs.Lookups.{pipelines_of}
use Rattle.gate_queue.specs.Seats.{SenderSeat, Shape, TakerSeat}
use Rattle.gate_source.specs.Stops.{IsNoteOf}
use Rattle.gate_run_stages.specs.declared.tenant_worker.TenantWorker.{TenantWorker}
use Rattle.gate_run_stages.specs.declared.forwarder.Forwarder.{Forwarder}
use Rattle.gate_run_threads.specs.declared.putting.PassedOn.{PassedOn}
use Rattle.gate_run_reader.specs.declared.reader.Reader.{Reader}
use Rattle.gate_run_reader.specs.declared.reader.ReaderEnd.{ReaderEnd}
use Rattle.gate_run_worker.specs.declared.worker.PipelineWorker.{PipelineWorker}
use Rattle.gate_run_worker.specs.declared.worker.WorkerEnd.{WorkerEnd}
use Rattle.gate_source.specs.Feeds.{Told}
use Rattle.gate_run_threads.specs.Lists.{Pairwise, Each, EachAt}
use Rattle.gate_run_reader.specs.Asked.{AreKnown}
use Rattle.gate_run_reader.specs.Readers.{notes_of}
use Rattle.gate_run_posts.specs.Ports.{InboxEnds}
use Rattle.gate_run.specs.Inner.Seatings.{AreWorkersOf, Cells, IsTenantWorkerOf, IsForwarderOf, IsReaderOf, IsWorkerOf}
use Rattle.gate_run_threads.specs.Seats.{seat_in, seat_of}
use Rattle.gate_run.specs.Inner.Works.{Dispatched, Forwarded, Read, Worked}
use Rattle.gate_run_threads.proofs.Places.{as_many, at_here, beside_of, the_same}
use Rattle.gate_run.proofs.Seatings.{number_here}
use Rattle.gate_run_threads.proofs.Grouped.{range_length}

-- lists of as many elements, of which each two at a place are seen alike
pub all_alike : {A B C : Type 0} (f : A → C) (g : B → C) (xs : List A) (ys : List B) → length xs ≡ length ys → ((i : ℕ) (x : A) (y : B) → slice_get xs i ≡ Some x → slice_get ys i ≡ Some y → f x ≡ g y) → map f xs ≡ map g ys
all_alike f g [] [] e each = refl
all_alike f g [] (y ∷ ys) e each = absurd (cc)
all_alike f g (x ∷ xs) [] e each = absurd (cc)
all_alike f g (x ∷ xs) (y ∷ ys) e each = (λ i. each 0 x y refl refl i ∷ all_alike f g xs ys (omega (arith, e)) (λ k a b at at'. each (suc k) a b at at') i)

-- in lists of lists
pub all_ready : {V A : Type 0} (items : V → List A) (P : ℕ → List A → Type 0) (Q : A → Type 0) → ((k : ℕ) (xs : List A) → P k xs → All Q xs) → (rows : List V) → EachAt P (map items rows) → All (λ row. All Q (items row)) rows
all_ready items P Q so [] all k d low = absurd (omega (arith, low))
all_ready items P Q so (row ∷ rows) all zero d low = so 0 (items row) all.0
all_ready items P Q so (row ∷ rows) all (suc k) d low = all_ready items (λ i. P (suc i)) Q (λ i. so (suc i)) rows all.1 k d (omega (arith, low))

number_is : (m i k : ℕ) → i < m → slice_get (range_with_len 0 m) i ≡ Some k → k ≡ i
number_is m i k low at = sym (the_same i k (ap Some (omega arith) ∙ sym (number_here 0 m i low) ∙ at))

module _ {F : Type 0} (to_come : F → Told) (faults : F → ℕ) (feeds : List F) (queues : List Shape) (cells : Cells) (readers : List (Reader F)) (ends : List (ReaderEnd F)) (are : EachAt (IsReaderOf faults feeds queues cells) readers) (did : Pairwise (Read to_come faults) readers ends) where
  pub tails_back : length readers ≡ length queues → map (λ (end : ReaderEnd F). seat_of end.tail) ends ≡ map (seat_in 0) queues
  tails_back many = all_alike (λ (end : ReaderEnd F). seat_of end.tail) (seat_in 0) ends queues (sym (as_many (Read to_come faults) readers ends did) ∙ many) (λ c end queue at at'.
      let pair = beside_of (Read to_come faults) readers ends c end did at in
      let is = at_here (IsReaderOf faults feeds queues cells) readers c pair.other are pair.there in
      pair.are.seat ∙ ap (λ (tail : SenderSeat ConnEntry). seat_of tail) is.can.not_put ∙ ap (seat_in 0) (the_same pair.other.queue.now queue (sym is.queue ∙ at')))

-- notes are of the cell
pub notes_back : {F : Type 0} (to_come : F → Told) (faults : F → ℕ) (cell : ℕ) (P : ℕ → Reader F → Type 0) → ((c : ℕ) (w : Reader F) → P c w → IsNoteOf cell w.note) → (readers : List (Reader F)) (ends : List (ReaderEnd F)) → EachAt P readers → Pairwise (Read to_come faults) readers ends →
    Each (λ (end : ReaderEnd F). IsNoteOf cell end.note) ends
notes_back to_come faults cell P of [] [] are did = tt
notes_back to_come faults cell P of [] (end ∷ ends) are did = absurd did
notes_back to_come faults cell P of (w ∷ readers) [] are did = absurd did
notes_back to_come faults cell P of (w ∷ readers) (end ∷ ends) are did = (did.0.cell ∙ of 0 w are.0, notes_back to_come faults cell (λ c. P (suc c)) (λ c. of (suc c)) readers ends are.1 did.1)

-- and those of renewals are known
pub known_back : {F : Type 0} (to_come : F → Told) (faults : F → ℕ) (cells : List ℕ) (P : ℕ → Reader F → Type 0) → ((c : ℕ) (w : Reader F) → P c w → w.cells.now ≡ cells) → (readers : List (Reader F)) (ends : List (ReaderEnd F)) → EachAt P readers → Pairwise (Read to_come faults) readers ends →
    Each (λ (end : ReaderEnd F). AreKnown cells (notes_of end.renewals.items)) ends
known_back to_come faults cells P of [] [] are did = tt
known_back to_come faults cells P of [] (end ∷ ends) are did = absurd did
known_back to_come faults cells P of (w ∷ readers) [] are did = absurd did
known_back to_come faults cells P of (w ∷ readers) (end ∷ ends) are did =
    (subst (λ xs. AreKnown xs (notes_of end.renewals.items)) (of 0 w are.0) did.0.known, known_back to_come faults cells (λ c. P (suc c)) (λ c. of (suc c)) readers ends are.1 did.1)

module _ (gens : Generations) (sources targets : List Shape) (forwarders : List Forwarder) (ends : List (PassedOn (TakerSeat ConnEntry) TenantItem)) (are : EachAt (IsForwarderOf gens sources targets) forwarders) (did : Pairwise Forwarded forwarders ends) where
  pub forwarder_heads : length forwarders ≡ length sources → map (λ (end : PassedOn (TakerSeat ConnEntry) TenantItem). end.head.queue) ends ≡ map (λ (queue : Shape). queue.name) sources
  forwarder_heads many = all_alike (λ (end : PassedOn (TakerSeat ConnEntry) TenantItem). end.head.queue) (λ (queue : Shape). queue.name) ends sources (sym (as_many Forwarded forwarders ends did) ∙ many) (λ c end queue at at'.
      let pair = beside_of Forwarded forwarders ends c end did at in
      let is = at_here (IsForwarderOf gens sources targets) forwarders c pair.other are pair.there in
      pair.are.head_of ∙ ap (λ (q : Shape). q.name) (the_same pair.other.source.now queue (sym is.source ∙ at')))

  pub forwarder_tails : map (λ (end : PassedOn (TakerSeat ConnEntry) TenantItem). map seat_of end.tails.items) ends ≡ map (λ s. map (seat_in s) targets) (range_with_len 0 (length ends))
  forwarder_tails = all_alike (λ (end : PassedOn (TakerSeat ConnEntry) TenantItem). map seat_of end.tails.items) (λ s. map (seat_in s) targets) ends (range_with_len 0 (length ends)) (sym (range_length 0 (length ends))) (λ c end s at at'.
      let pair = beside_of Forwarded forwarders ends c end did at in
      let is = at_here (IsForwarderOf gens sources targets) forwarders c pair.other are pair.there in
      pair.are.seats ∙ (λ i. map (seat_in (is.of_conn i)) (is.puts_into i)) ∙ ap (λ k. map (seat_in k) targets) (sym (number_is (length ends) c s (slice_get_within ends c end at) at')))

module _ (gens : Generations) (sources : List Shape) (targets : List (List Shape)) (tenant_workers : List TenantWorker) (ends : List (PassedOn (TakerSeat TenantItem) PipelineItem)) (are : EachAt (IsTenantWorkerOf gens sources targets) tenant_workers) (did : Pairwise Dispatched tenant_workers ends) where
  pub tenant_worker_heads : length tenant_workers ≡ length sources → map (λ (end : PassedOn (TakerSeat TenantItem) PipelineItem). end.head.queue) ends ≡ map (λ (queue : Shape). queue.name) sources
  tenant_worker_heads many = all_alike (λ (end : PassedOn (TakerSeat TenantItem) PipelineItem). end.head.queue) (λ (queue : Shape). queue.name) ends sources (sym (as_many Dispatched tenant_workers ends did) ∙ many) (λ t end queue at at'.
      let pair = beside_of Dispatched tenant_workers ends t end did at in
      let is = at_here (IsTenantWorkerOf gens sources targets) tenant_workers t pair.other are pair.there in
      pair.are.head_of ∙ ap (λ (q : Shape). q.name) (the_same pair.other.source.now queue (sym is.source ∙ at')))

  pub tenant_worker_tails : length tenant_workers ≡ length targets → map (λ (end : PassedOn (TakerSeat TenantItem) PipelineItem). map seat_of end.tails.items) ends ≡ map (map (seat_in 0)) targets
  tenant_worker_tails many = all_alike (λ (end : PassedOn (TakerSeat TenantItem) PipelineItem). map seat_of end.tails.items) (map (seat_in 0)) ends targets (sym (as_many Dispatched tenant_workers ends did) ∙ many) (λ t end group at at'.
      let pair = beside_of Dispatched tenant_workers ends t end did at in
      let is = at_here (IsTenantWorkerOf gens sources targets) tenant_workers t pair.other are pair.there in
      pair.are.seats ∙ ap (map (seat_in 0)) (the_same pair.other.targets.now group (sym is.puts_into ∙ at')))

module _ {G : Type 0} (config : Config) (sources : List (List Shape)) (inbox : List (List InboxEnds)) (workers : List (List (PipelineWorker G))) (lists : List (List WorkerEnd)) (are : EachAt (AreWorkersOf config sources inbox) workers) (did : Pairwise (Pairwise Worked) workers lists) where
  pub worker_heads : length workers ≡ length sources → ((t : ℕ) (queues : List Shape) → slice_get sources t ≡ Some queues → length queues ≡ length (pipelines_of config t)) → map (λ (ends : List WorkerEnd). map (λ (end : WorkerEnd). end.head.queue) ends) lists ≡ map (map (λ (queue : Shape). queue.name)) sources
  worker_heads many wide = all_alike (λ (ends : List WorkerEnd). map (λ (end : WorkerEnd). end.head.queue) ends) (map (λ (queue : Shape). queue.name)) lists sources (sym (as_many (Pairwise Worked) workers lists did) ∙ many) (λ t ends queues at at'.
      let rows = beside_of (Pairwise Worked) workers lists t ends did at in
      let of = at_here (AreWorkersOf config sources inbox) workers t rows.other are rows.there in
      let same : of.own_sources ≡ queues = the_same of.own_sources queues (sym of.sources_here ∙ at') in
      all_alike (λ (end : WorkerEnd). end.head.queue) (λ (queue : Shape). queue.name) ends queues (sym (as_many Worked rows.other ends rows.are) ∙ of.count ∙ sym (wide t queues at')) (λ p end queue here here'.
      let pair = beside_of Worked rows.other ends p end rows.are here in
      let is = at_here (IsWorkerOf config t of.own_sources of.own_inbox) rows.other p pair.other of.each pair.there in
      pair.are.triggers.queue ∙ ap (λ (head : TakerSeat PipelineItem). head.queue) is.can.not_taken ∙ ap (λ (q : Shape). q.name) (the_same pair.other.source.now queue (sym is.source ∙ ap (λ qs. slice_get qs p) same ∙ here'))))
