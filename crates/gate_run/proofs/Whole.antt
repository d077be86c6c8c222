-- A whole run, from how its queues were opened and what its threads did: what ends them, and all that is known.
use Rattle.std.proofs.Common.{◌≡◌, ◌∙◌, refl, sym, ap, ℕ, List, [], ◌∷◌, length, map, Some}
use Rattle.std.specs.Prelude.{Result, Ok, Err, IfOk, slice_get}
use Rattle.std.specs.List.{range_with_len}
use Rattle.gate_record.specs.declared.transit.PipelineItem.{PipelineItem}
use Rattle.gate_record.specs.declared.transit.TenantItem.{TenantItem}
use Rattle.gate_config.specs.declared.generations.Generations.{Generations}
use Rattle.gate_config.specs.Lookups.{connections_of, pipelines_of, tenants_of}
use Rattle.gate_source.specs.Stops.{IsNoteOf}
use Rattle.gate_queue.specs.Seats.{Shape, TakerSeat}
use Rattle.gate_run_threads.specs.declared.putting.PassedOn.{PassedOn}
use Rattle.gate_run_reader.specs.declared.reader.Reader.{Reader}
use Rattle.gate_source.specs.Feeds.{Told}
use Rattle.gate_run_threads.specs.Lists.{Each}
use Rattle.gate_run_reader.specs.Asked.{AreKnown}
use Rattle.gate_run_posts.specs.Asked.{AskedView}
use Rattle.gate_run_posts.specs.Ports.{InboxEnds}
use Rattle.gate_run.specs.Inner.Finishing.{AreAllSeats, AreAllSettled, AreNotesFor}
use Rattle.gate_run.specs.Inner.Queues.{AreOpen, Heads, Queues, Tails}
use Rattle.gate_run_reader.specs.Readers.{notes_of}
use Rattle.gate_run.specs.Inner.Seatings.{IsReaderOf, cells_of}
use Rattle.gate_run_threads.specs.Seats.{seat_in, seat_of}
use Rattle.gate_run.specs.Inner.Works.{Ends, Forwarded, HaveRun}
use Rattle.gate_run.proofs.Evidence.{Evidence}
use Rattle.gate_run_threads.proofs.Paired.{map_length}
use Rattle.gate_run_threads.proofs.Places.{as_many}
use Rattle.gate_run.proofs.Returning.{tenant_worker_heads, tenant_worker_tails, forwarder_heads, forwarder_tails, known_back, notes_back, tails_back, worker_heads}
use Rattle.gate_run_threads.proofs.Seated.{map_map}
use Rattle.gate_run.proofs.Seatings.{as_many_of, count_here}
use Rattle.gate_run_threads.proofs.Grouped.{groups_as, range_length}

pub if_ok : {T E : Type 0} {A Z : T → Type 0} (r : Result T E) → ((x : T) → A x → Z x) → IfOk r A → IfOk r Z
if_ok (Ok x) f a = f x a
if_ok (Err e) f a = a

pub if_ok_all : {T E : Type 0} {A B C D Z : T → Type 0} (r : Result T E) → ((x : T) → A x → B x → C x → D x → Z x) → IfOk r A → IfOk r B → IfOk r C → IfOk r D → IfOk r Z
if_ok_all (Ok x) f a b c d = f x a b c d
if_ok_all (Err e) f a b c d = a

module _ {F : Type 0} (G : Type 0) (gens : Generations) (to_come : F → Told) (faults : F → ℕ) (feeds : List F) (inbox : List (List InboxEnds)) (asked : AskedView) (queues : Queues) (heads : Heads) (tails : Tails) (ends : Ends F) (O : AreOpen gens.first queues heads tails) (H : HaveRun G gens to_come faults feeds inbox (cells_of gens asked) queues ends) where
  abbrev pub groups : List (List Shape)
  groups = map (λ group. group.items) queues.triggers.items

  notes : Each (λ end. IsNoteOf asked.note.cell end.note) ends.readers.items
  notes = notes_back to_come faults asked.note.cell (IsReaderOf faults feeds queues.records.items (cells_of gens asked)) (λ c (w : Reader F) (is : IsReaderOf faults feeds queues.records.items (cells_of gens asked) c w). is.can.note_of ∙ is.of_stop) H.readers ends.readers.items H.are_readers H.have_read

  known : Each (λ end. AreKnown asked.cells (notes_of end.renewals.items)) ends.readers.items
  known = known_back to_come faults asked.cells (IsReaderOf faults feeds queues.records.items (cells_of gens asked)) (λ c (w : Reader F) (is : IsReaderOf faults feeds queues.records.items (cells_of gens asked) c w). is.of_later) H.readers ends.readers.items H.are_readers H.have_read

  record_heads : map (λ end. end.head.queue) ends.forwarders.items ≡ map (λ queue. queue.name) queues.records.items
  record_heads = forwarder_heads gens queues.records.items queues.items.items H.forwarders ends.forwarders.items H.are_forwarders H.have_forwarded (H.forwarder_count ∙ sym O.records.many)

  record_tails : map (λ end. seat_of end.tail) ends.readers.items ≡ map (seat_in 0) queues.records.items
  record_tails = tails_back to_come faults feeds queues.records.items (cells_of gens asked) H.readers ends.readers.items H.are_readers H.have_read (H.reader_count ∙ sym O.records.many)

  item_senders : map (λ queue. queue.name.senders) queues.items.items ≡ map (λ queue. length ends.forwarders.items) queues.items.items
  item_senders = O.items.of_senders ∙ ap (λ n. map (λ (queue : Shape). n) queues.items.items) (sym H.forwarder_count ∙ as_many Forwarded H.forwarders ends.forwarders.items H.have_forwarded)

  item_heads : map (λ end. end.head.queue) ends.tenant_workers.items ≡ map (λ queue. queue.name) queues.items.items
  item_heads = tenant_worker_heads gens queues.items.items groups H.tenant_workers ends.tenant_workers.items H.are_tenant_workers H.have_dispatched (H.tenant_worker_count ∙ sym O.items.many)

  item_tails : map (λ end. map seat_of end.tails.items) ends.forwarders.items ≡ map (λ s. map (seat_in s) queues.items.items) (range_with_len 0 (length ends.forwarders.items))
  item_tails = forwarder_tails gens queues.records.items queues.items.items H.forwarders ends.forwarders.items H.are_forwarders H.have_forwarded

  group_count : length groups ≡ length (tenants_of gens.first)
  group_count =
      map_length (λ group. group.items) queues.triggers.items
      ∙ as_many_of (λ group. length group.items) (λ t. length (pipelines_of gens.first t)) queues.triggers.items (range_with_len 0 (length (tenants_of gens.first))) O.trigger_counts
      ∙ range_length 0 (length (tenants_of gens.first))

  group_wide : (t : ℕ) (group : List Shape) → slice_get groups t ≡ Some group → length group ≡ length (pipelines_of gens.first t)
  group_wide t group at = count_here length (λ k. length (pipelines_of gens.first k)) groups (length (tenants_of gens.first)) t group (map_map length (λ group. group.items) queues.triggers.items ∙ O.trigger_counts) at

  trigger_heads : map (λ list. map (λ end. end.head.queue) list.items) ends.workers.items ≡ map (λ group. map (λ queue. queue.name) group.items) queues.triggers.items
  trigger_heads =
      sym (map_map (map (λ end. end.head.queue)) (λ list. list.items) ends.workers.items)
      ∙ worker_heads gens.first groups inbox H.workers (map (λ list. list.items) ends.workers.items) H.are_workers H.have_worked (H.worker_count ∙ sym group_count) group_wide
      ∙ map_map (map (λ (queue : Shape). queue.name)) (λ group. group.items) queues.triggers.items

  trigger_tails : map (λ end. map seat_of end.tails.items) ends.tenant_workers.items ≡ map (λ group. map (seat_in 0) group.items) queues.triggers.items
  trigger_tails =
      tenant_worker_tails gens queues.items.items groups H.tenant_workers ends.tenant_workers.items H.are_tenant_workers H.have_dispatched (H.tenant_worker_count ∙ sym group_count)
      ∙ map_map (map (seat_in 0)) (λ group. group.items) queues.triggers.items

  pub are_notes : AreNotesFor asked ends.readers.items
  are_notes = record { of_stop = notes; of_renewals = known }

  pub are_seats : AreAllSeats queues ends
  are_seats = record {
    record_senders = O.records.of_senders;
    record_heads = record_heads;
    record_tails = record_tails;
    item_senders = item_senders;
    item_heads = item_heads;
    item_tails = item_tails;
    trigger_senders = O.trigger_senders;
    trigger_heads = trigger_heads;
    trigger_tails = trigger_tails;
  }

  abbrev pub evidence : length feeds ≡ length (connections_of gens.first)
      → AreAllSettled queues ends
      → Evidence G gens to_come faults feeds inbox (cells_of gens asked)
  evidence fed settled = record {
    records = queues.records.items;
    items = queues.items.items;
    triggers = groups;
    reader_ends = ends.readers.items;
    forwarder_ends = ends.forwarders.items;
    tenant_worker_ends = ends.tenant_workers.items;
    worker_ends = map (λ list. list.items) ends.workers.items;
    threads = H;
    feed_count = fed;
    record_senders = O.records.of_senders;
    item_senders = O.items.of_senders;
    trigger_senders = map_map (map (λ (queue : Shape). queue.name.senders)) (λ group. group.items) queues.triggers.items ∙ O.trigger_senders ∙ sym (map_map (map (λ (queue : Shape). 1)) (λ group. group.items) queues.triggers.items);
    generation_count = refl;
    records_settled = settled.records;
    items_settled = settled.items;
    triggers_settled = groups_as groups _ _ (map (λ (end : PassedOn (TakerSeat TenantItem) PipelineItem). end.tails.items) ends.tenant_workers.items) (sym (map_map (map (λ end. end.head)) (λ list. list.items) ends.workers.items)) settled.triggers;
  }
