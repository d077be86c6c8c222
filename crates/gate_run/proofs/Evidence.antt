-- All that is known of the threads of a run once they were joined and their queues were ended.
use Rattle.std.proofs.Common.{◌≡◌, ℕ, List, [], ◌∷◌, length, map}
use Rattle.gate_record.specs.declared.transit.ConnEntry.{ConnEntry}
use Rattle.gate_record.specs.declared.transit.PipelineItem.{PipelineItem}
use Rattle.gate_record.specs.declared.transit.TenantItem.{TenantItem}
use Rattle.gate_config.specs.declared.generations.Generations.{Generations}
use Rattle.gate_config.specs.Generations.{count_of}
use Rattle.gate_config.specs.Lookups.{connections_of}
use Rattle.gate_queue.specs.Seats.{Shape, TakerSeat}
use Rattle.gate_run_threads.specs.declared.putting.PassedOn.{PassedOn}
use Rattle.gate_run_reader.specs.declared.reader.ReaderEnd.{ReaderEnd}
use Rattle.gate_run_worker.specs.declared.worker.WorkerEnd.{WorkerEnd}
use Rattle.gate_source.specs.Feeds.{Told}
use Rattle.gate_run_posts.specs.Ports.{InboxEnds}
use Rattle.gate_run.specs.Inner.Seatings.{Cells}
use Rattle.gate_run_threads.specs.QueueGroups.{AreGroupsSettled, AreQueuesSettled}
use Rattle.gate_run.specs.Inner.Works.{ThreadsHaveRun}

pub record Evidence {F : Type 0} (G : Type 0) (gens : Generations) (to_come : F → Told) (faults : F → ℕ) (feeds : List F) (inbox : List (List InboxEnds)) (cells : Cells) : Type 0 where
  pub records : List Shape
  pub items : List Shape
  pub triggers : List (List Shape)
  pub reader_ends : List (ReaderEnd F)
  pub forwarder_ends : List (PassedOn (TakerSeat ConnEntry) TenantItem)
  pub tenant_worker_ends : List (PassedOn (TakerSeat TenantItem) PipelineItem)
  pub worker_ends : List (List WorkerEnd)
  pub threads : ThreadsHaveRun G gens to_come faults feeds inbox cells records items triggers reader_ends forwarder_ends tenant_worker_ends worker_ends
  pub feed_count : length feeds ≡ length (connections_of gens.first)
  pub record_senders : map (λ (queue : Shape). queue.name.senders) records ≡ map (λ (queue : Shape). 1) records
  pub item_senders : map (λ (queue : Shape). queue.name.senders) items ≡ map (λ (queue : Shape). length (connections_of gens.first)) items
  pub trigger_senders : map (λ (queues : List Shape). map (λ (queue : Shape). queue.name.senders) queues) triggers ≡ map (λ (queues : List Shape). map (λ (queue : Shape). 1) queues) triggers
  pub generation_count : cells.generations ≡ count_of gens
  pub records_settled : AreQueuesSettled records (map (λ (end : PassedOn (TakerSeat ConnEntry) TenantItem). end.head) forwarder_ends) (map (λ (end : ReaderEnd F). end.tail) reader_ends ∷ [])
  pub items_settled : AreQueuesSettled items (map (λ (end : PassedOn (TakerSeat TenantItem) PipelineItem). end.head) tenant_worker_ends) (map (λ (end : PassedOn (TakerSeat ConnEntry) TenantItem). end.tails.items) forwarder_ends)
  pub triggers_settled : AreGroupsSettled triggers (map (λ (ends : List WorkerEnd). map (λ (end : WorkerEnd). end.head) ends) worker_ends) (map (λ (end : PassedOn (TakerSeat TenantItem) PipelineItem). end.tails.items) tenant_worker_ends)
