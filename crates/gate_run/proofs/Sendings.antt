-- That works may be given to threads, since a configuration and its generations may be lent to them.
use denote.RattleType.{RattleType}
use denote.Ref.{NamedLft}
use denote.Param.Send.{AllSend, IsSend, IsSync, recorded_send, sendable, struct_send}
use denote.Struct.Declared.{shape}
use Rattle.std.proofs.Crossing.{crosses}
use Rattle.gate_queue.proofs.free.queue.FreeQueue.TheSendSync as free_queue
use Rattle.gate_queue.proofs.free.seats.FreeHead.TheSendSync as free_head
use Rattle.gate_queue.proofs.free.seats.FreeTail.TheSendSync as free_tail
use Rattle.gate_queue.proofs.queue.EventQueue.TheSendSync as queue
use Rattle.gate_queue.proofs.seats.Head.TheSendSync as head
use Rattle.crossbeam_utils.proofs.sync.parker.RuledParker.TheSendSync as parker
use Rattle.gate_record.proofs.transit.ConnEntry.TheSendSync as entry
use Rattle.gate_record.proofs.transit.PipelineItem.TheSendSync as trigger
use Rattle.gate_record.proofs.transit.TenantItem.TheSendSync as item
use Rattle.gate_pipeline.proofs.pipeline.Pipeline.TheSendSync as state
use Rattle.gate_run_worker.proofs.inbox.InboxSeat.TheSendSync as inbox
use Rattle.gate_items.proofs.action.Manage.TheSendSync as manage
use Rattle.gate_items.proofs.action.JobResult.TheSendSync as ended
use Rattle.gate_config.specs.contracts.config.Config as config
use Rattle.gate_config.specs.contracts.generations.Generations as generations
use Rattle.gate_run_stages.specs.contracts.tenant_worker.TenantWorker as tenant_worker
use Rattle.gate_run_stages.specs.contracts.forwarder.Forwarder as forwarder
use Rattle.gate_run_worker.specs.contracts.worker.PipelineWorker as worker

module _ (κ : NamedLft) (generations_sync : IsSync generations.the_row) where
  forwarder_parts : AllSend (shape (forwarder.the_type κ)).fields
  forwarder_parts = (search (sendable, crosses) depth 40 fits 20000, (search (sendable, crosses) depth 40 fits 20000, (search (sendable, crosses) depth 40 fits 20000, (search (sendable, crosses, queue.the_sync, entry.the_send) depth 40 fits 20000, (search (sendable, crosses, head.the_send, entry.the_send) depth 40 fits 20000, (search (sendable, crosses, free_queue.the_sync, item.the_send) depth 40 fits 20000, (search (sendable, crosses, free_tail.the_send, item.the_send) depth 40 fits 20000, (search (sendable, crosses, parker.the_field_send) depth 40 fits 20000, tt))))))))

  pub forwarder_send : IsSend (forwarder.the_row κ)
  forwarder_send = recorded_send (forwarder.the_field κ).row (forwarder.the_type κ).D (forwarder.the_type κ).to (forwarder.the_type κ).to_one (struct_send (shape (forwarder.the_type κ)) forwarder_parts)

  tenant_worker_parts : AllSend (shape (tenant_worker.the_type κ)).fields
  tenant_worker_parts = (search (sendable, crosses) depth 40 fits 20000, (search (sendable, crosses) depth 40 fits 20000, (search (sendable, crosses) depth 40 fits 20000, (search (sendable, crosses, free_queue.the_sync, item.the_send) depth 40 fits 20000, (search (sendable, crosses, free_head.the_send, item.the_send) depth 40 fits 20000, (search (sendable, crosses, free_queue.the_sync, trigger.the_send) depth 40 fits 20000, (search (sendable, crosses, free_tail.the_send, trigger.the_send) depth 40 fits 20000, (search (sendable, crosses, parker.the_field_send) depth 40 fits 20000, tt))))))))

  pub tenant_worker_send : IsSend (tenant_worker.the_row κ)
  tenant_worker_send = recorded_send (tenant_worker.the_field κ).row (tenant_worker.the_type κ).D (tenant_worker.the_type κ).to (tenant_worker.the_type κ).to_one (struct_send (shape (tenant_worker.the_type κ)) tenant_worker_parts)

module _ (κ : NamedLft) (config_sync : IsSync config.the_row) where
  worker_parts : (G : RattleType) → IsSync G → AllSend (shape (worker.the_type κ G)).fields
  worker_parts G gate_sync = (search (sendable, crosses) depth 40 fits 20000, (search (sendable, crosses) depth 40 fits 20000, (search (sendable, crosses) depth 40 fits 20000, (search (sendable, crosses, state.the_send) depth 40 fits 20000, (search (sendable, crosses, free_queue.the_sync, trigger.the_send) depth 40 fits 20000, (search (sendable, crosses, free_head.the_send, trigger.the_send) depth 40 fits 20000, (search (sendable, crosses, inbox.the_send, manage.the_send) depth 40 fits 20000, (search (sendable, crosses, inbox.the_send, ended.the_send) depth 40 fits 20000, (search (sendable, crosses, parker.the_field_send) depth 40 fits 20000, (search (sendable, crosses) depth 40 fits 20000, tt))))))))))

  pub worker_send : (G : RattleType) → IsSync G → IsSend (worker.the_row κ G)
  worker_send G gate_sync = recorded_send (worker.the_field κ G).row (worker.the_type κ G).D (worker.the_type κ G).to (worker.the_type κ G).to_one (struct_send (shape (worker.the_type κ G)) (worker_parts G gate_sync))
