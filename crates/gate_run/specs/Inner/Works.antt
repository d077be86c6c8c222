-- The works of a run's threads: what each needs before it begins, and what is true of what it hands back.
use Rattle.std.specs.Prelude.{◌≡◌, ℕ, List, All, length, map}
use Rattle.gate_record.specs.declared.transit.ConnEntry.{ConnEntry}
use Rattle.gate_record.specs.declared.transit.PipelineItem.{PipelineItem}
use Rattle.gate_record.specs.declared.transit.TenantItem.{TenantItem}
use Rattle.gate_config.specs.declared.generations.Generations.{Generations}
use Rattle.gate_config.specs.Lookups.{connections_of, tenants_of}
use Rattle.gate_queue.specs.Seats.{Shape, TakerSeat}
use Rattle.gate_run_stages.specs.declared.tenant_worker.TenantWorker.{TenantWorker}
use Rattle.gate_run_stages.specs.declared.forwarder.Forwarder.{Forwarder}
use Rattle.gate_run.specs.declared.by_thread.ByThread.{ByThread}
use Rattle.gate_run_threads.specs.declared.putting.PassedOn.{PassedOn}
use Rattle.gate_run.specs.Inner.Queues.{Queues}
use Rattle.gate_run_reader.specs.declared.reader.Reader.{Reader}
use Rattle.gate_run_reader.specs.declared.reader.ReaderEnd.{ReaderEnd}
use Rattle.gate_run_worker.specs.declared.worker.PipelineWorker.{PipelineWorker}
use Rattle.gate_run_worker.specs.declared.worker.WorkerEnd.{WorkerEnd}
use Rattle.gate_run_stages.specs.TenantWorkers.{CanDispatch, HasDispatched}
use Rattle.gate_source.specs.Feeds.{Told}
use Rattle.gate_run_stages.specs.Forwarders.{CanForward, HasForwarded}
use Rattle.gate_run_threads.specs.Lists.{Pairwise, EachAt}
use Rattle.gate_run_posts.specs.Ports.{InboxEnds}
use Rattle.gate_run_reader.specs.Readers.{CanRead, HasRead}
use Rattle.gate_run.specs.Inner.Seatings.{AreWorkersOf, Cells, IsTenantWorkerOf, IsForwarderOf, IsReaderOf}
use Rattle.gate_run_worker.specs.Workers.{CanWork, HasWorked}

abbrev pub ReadyToRead : {F : Type 0} → (F → ℕ) → Reader F → Type 0
ReadyToRead faults w = CanRead w.queue.now w.tail w.cell.now w.note w.generations (faults w.feed)

abbrev pub ReadyToForward : Forwarder → Type 0
ReadyToForward w = CanForward w.gens.now w.conn.0 w.source.now w.targets.now w.head w.tails.items

abbrev pub ReadyToDispatch : TenantWorker → Type 0
ReadyToDispatch w = CanDispatch w.gens.now w.tenant.0 w.source.now w.targets.now w.head w.tails.items

abbrev pub ReadyToWork : {G : Type 0} → PipelineWorker G → Type 0
ReadyToWork w = CanWork w.config.now w.tenant.0 w.pipeline.0 w.state w.source.now w.head

abbrev pub Read : {F : Type 0} → (F → Told) → (F → ℕ) → Reader F → ReaderEnd F → Type 0
Read to_come faults w end = HasRead (to_come w.feed) (to_come end.feed) (faults w.feed) (faults end.feed) w.tail end.tail w.generations w.cells.now end.count end.renewals.items end.cause w.note end.note

abbrev pub Forwarded : Forwarder → PassedOn (TakerSeat ConnEntry) TenantItem → Type 0
Forwarded w end = HasForwarded w.gens.now w.conn.0 w.source.now w.targets.now end.head end.tails.items

abbrev pub Dispatched : TenantWorker → PassedOn (TakerSeat TenantItem) PipelineItem → Type 0
Dispatched w end = HasDispatched w.gens.now w.tenant.0 w.source.now w.targets.now end.head end.tails.items

abbrev pub Worked : {G : Type 0} → PipelineWorker G → WorkerEnd → Type 0
Worked w end = HasWorked w.config.now w.tenant.0 w.pipeline.0 w.head end.head w.management end.management w.results end.results end.state

-- a work for each thread of a run
abbrev pub Works : Type 0 → Type 0 → Type 0
Works F G = ByThread (Reader F) Forwarder TenantWorker (PipelineWorker G)

-- what each thread of a run handed back
abbrev pub Ends : Type 0 → Type 0
Ends F = ByThread (ReaderEnd F) (PassedOn (TakerSeat ConnEntry) TenantItem) (PassedOn (TakerSeat TenantItem) PipelineItem) WorkerEnd

-- each of these works may begin
pub record AreReady {F : Type 0} (G : Type 0) (faults : F → ℕ) (works : Works F G) : Type 0 where
  pub readers : All (ReadyToRead faults) works.readers.items
  pub forwarders : All ReadyToForward works.forwarders.items
  pub tenant_workers : All ReadyToDispatch works.tenant_workers.items
  pub workers : All (λ list. All ReadyToWork list.items) works.workers.items

-- each of these works is done, and its thread handed back what stands at its place
pub record HaveReturned {F : Type 0} (G : Type 0) (to_come : F → Told) (faults : F → ℕ) (works : Works F G) (ends : Ends F) : Type 0 where
  pub readers : Pairwise (Read to_come faults) works.readers.items ends.readers.items
  pub forwarders : Pairwise Forwarded works.forwarders.items ends.forwarders.items
  pub tenant_workers : Pairwise Dispatched works.tenant_workers.items ends.tenant_workers.items
  pub workers : Pairwise (Pairwise Worked) (map (λ list. list.items) works.workers.items) (map (λ list. list.items) ends.workers.items)

-- What the threads of a run handed back, where each had its seats in these queues.
pub record ThreadsHaveRun {F : Type 0} (G : Type 0) (gens : Generations) (to_come : F → Told) (faults : F → ℕ) (feeds : List F) (inbox : List (List InboxEnds)) (cells : Cells)
    (records items : List Shape) (triggers : List (List Shape)) (reader_ends : List (ReaderEnd F)) (forwarder_ends : List (PassedOn (TakerSeat ConnEntry) TenantItem))
    (tenant_worker_ends : List (PassedOn (TakerSeat TenantItem) PipelineItem)) (worker_ends : List (List WorkerEnd)) : Type 0 where
  pub readers : List (Reader F)
  pub forwarders : List Forwarder
  pub tenant_workers : List TenantWorker
  pub workers : List (List (PipelineWorker G))
  pub reader_count : length readers ≡ length (connections_of gens.first)
  pub forwarder_count : length forwarders ≡ length (connections_of gens.first)
  pub tenant_worker_count : length tenant_workers ≡ length (tenants_of gens.first)
  pub worker_count : length workers ≡ length (tenants_of gens.first)
  pub are_readers : EachAt (IsReaderOf faults feeds records cells) readers
  pub are_forwarders : EachAt (IsForwarderOf gens records items) forwarders
  pub are_tenant_workers : EachAt (IsTenantWorkerOf gens items triggers) tenant_workers
  pub are_workers : EachAt (AreWorkersOf gens.first triggers inbox) workers
  pub have_read : Pairwise (Read to_come faults) readers reader_ends
  pub have_forwarded : Pairwise Forwarded forwarders forwarder_ends
  pub have_dispatched : Pairwise Dispatched tenant_workers tenant_worker_ends
  pub have_worked : Pairwise (Pairwise Worked) workers worker_ends

-- the threads between these queues have run, and handed this back
abbrev pub HaveRun : {F : Type 0} → Type 0 → Generations → (F → Told) → (F → ℕ) → List F → List (List InboxEnds) → Cells → Queues → Ends F → Type 0
HaveRun G gens to_come faults feeds inbox cells queues ends =
    ThreadsHaveRun G gens to_come faults feeds inbox cells queues.records.items queues.items.items (map (λ group. group.items) queues.triggers.items)
    ends.readers.items ends.forwarders.items ends.tenant_workers.items (map (λ list. list.items) ends.workers.items)
