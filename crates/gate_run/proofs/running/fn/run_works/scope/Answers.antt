use Rattle.std.proofs.Common.{List, map, subst}
use Rattle.std.specs.Prelude.{IfOk}
use denote.Param.Send.{IsSync, sendable}
use Rattle.gate_run_stages.specs.declared.tenant_worker.TenantWorker.{TenantWorker}
use Rattle.gate_run_stages.specs.declared.forwarder.Forwarder.{Forwarder}
use Rattle.gate_run_reader.specs.declared.reader.Reader.{Reader}
use Rattle.gate_run_worker.specs.declared.worker.PipelineWorker.{PipelineWorker}
use Rattle.gate_run_threads.specs.Lists.{Pairwise}
use Rattle.gate_run.specs.Inner.Works.{Dispatched, Forwarded, Read, Worked}
use Rattle.gate_run.proofs.Whole.{if_ok_all}
use Rattle.gate_run.proofs.Sendings.{tenant_worker_send, forwarder_send, worker_send}
use Rattle.gate_run.proofs.running.fn.run_works.scope.Goals as goal

pub start_all-requires-send-W : goal.start_all-requires-send-W
start_all-requires-send-W g c κs within = let s = c.generations_cross.ensures.sync in search (sendable, tenant_worker_send)

pub start_all-requires-2-send-W : goal.start_all-requires-2-send-W
start_all-requires-2-send-W g c κs within = let s = c.generations_cross.ensures.sync in search (sendable, forwarder_send)

pub start_lists-requires-send-W : goal.start_lists-requires-send-W
start_lists-requires-send-W g c κs within = let s = c.config_crosses.ensures.sync in let y : IsSync g.row.G = record { shared = c.is_shared.ensures.shared } in search (sendable, worker_send)

pub returns : goal.returns
returns g c = if_ok_all c.join_works.result
    (λ ends read forwarded dispatched worked. record { readers = read; forwarders = forwarded; tenant_workers = dispatched; workers = worked })
    (subst (λ (ws : List (Reader _)). IfOk c.join_works.result (λ ends. Pairwise (Read g.F.RecordFeed.to_come g.F.RecordFeed.fault_count) ws ends.readers.items)) c.in_ok-readers.ensures c.join_works.ensures.readers)
    (subst (λ (ws : List Forwarder). IfOk c.join_works.result (λ ends. Pairwise Forwarded ws ends.forwarders.items)) c.in_ok-forwarders.ensures c.join_works.ensures.forwarders)
    (subst (λ (ws : List TenantWorker). IfOk c.join_works.result (λ ends. Pairwise Dispatched ws ends.tenant_workers.items)) c.in_ok-tenant_workers.ensures c.join_works.ensures.tenant_workers)
    (subst (λ (ws : List (List (PipelineWorker _))). IfOk c.join_works.result (λ ends. Pairwise (Pairwise Worked) ws (map (λ list. list.items) ends.workers.items))) c.in_ok-workers.ensures c.join_works.ensures.workers)
