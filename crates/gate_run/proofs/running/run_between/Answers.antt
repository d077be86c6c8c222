use Rattle.std.proofs.Common.{List, ◌∙◌, map}
use Rattle.gate_queue.specs.Seats.{Shape}
use Rattle.gate_run_posts.specs.PipelineEnds.{inbox_of}
use Rattle.gate_run.specs.Inner.Seatings.{AreWorkersOf, Cells, IsTenantWorkerOf, IsForwarderOf, IsReaderOf, IsWorkerOf, cells_of}
use Rattle.gate_run.specs.Inner.Works.{ReadyToDispatch, ReadyToForward, ReadyToRead, ReadyToWork}
use Rattle.gate_run_threads.proofs.Paired.{map_length}
use Rattle.gate_run_threads.proofs.Places.{all_of_at}
use Rattle.gate_run.proofs.Returning.{all_ready}
use Rattle.gate_run.proofs.Whole.{if_ok}
use Rattle.gate_run.proofs.running.run_between.Goals as goal

pub run_works-requires-after_bounds : goal.run_works-requires-after_bounds
run_works-requires-after_bounds g c κs within =
    let gens = c.args.lent.gens.now in
    let queues = c.args.lent.queues.now in
    let faults = g.F.RecordFeed.fault_count in
    let feeds = c.args.feeds.items in
    let cells : Cells = cells_of gens c.args.lent.asked.now in
    let records = queues.records.items in
    let items = queues.items.items in
    let groups : List (List Shape) = map (λ group. group.items) queues.triggers.items in
    let inbox = map (λ row. map inbox_of row.items) c.args.inbox.items in
    record {
      readers = all_of_at (IsReaderOf faults feeds records cells) (ReadyToRead faults) (λ k w (is : IsReaderOf faults feeds records cells k w). is.can) c.in_ok-readers.readers.items c.in_ok-readers.ensures.readers;
      forwarders = all_of_at (IsForwarderOf gens records items) ReadyToForward (λ k w (is : IsForwarderOf gens records items k w). is.can) c.in_ok-forwarders.forwarders.items c.in_ok-forwarders.ensures.forwarders;
      tenant_workers = all_of_at (IsTenantWorkerOf gens items groups) ReadyToDispatch (λ k w (is : IsTenantWorkerOf gens items groups k w). is.can) c.in_ok-tenant_workers.tenant_workers.items c.in_ok-tenant_workers.ensures.tenant_workers;
      workers = all_ready (λ row. row.items) (AreWorkersOf gens.first groups inbox) ReadyToWork
          (λ k ws (are : AreWorkersOf gens.first groups inbox k ws). all_of_at (IsWorkerOf gens.first k are.own_sources are.own_inbox) ReadyToWork (λ p w (is : IsWorkerOf gens.first k are.own_sources are.own_inbox p w). is.can) ws are.each)
          c.in_ok-workers.workers.items c.in_ok-workers.ensures.workers;
    }

pub returns : goal.returns
returns g c =
    let rows = c.in_ok-workers.workers.items in
    if_ok c.run_works.result
    (λ ends back. record {
      readers = c.in_ok-readers.readers.items;
      forwarders = c.in_ok-forwarders.forwarders.items;
      tenant_workers = c.in_ok-tenant_workers.tenant_workers.items;
      workers = map (λ row. row.items) rows;
      reader_count = c.in_ok-readers.ensures.count;
      forwarder_count = c.in_ok-forwarders.ensures.count;
      tenant_worker_count = c.in_ok-tenant_workers.ensures.count;
      worker_count = map_length (λ row. row.items) rows ∙ c.in_ok-workers.ensures.count;
      are_readers = c.in_ok-readers.ensures.readers;
      are_forwarders = c.in_ok-forwarders.ensures.forwarders;
      are_tenant_workers = c.in_ok-tenant_workers.ensures.tenant_workers;
      are_workers = c.in_ok-workers.ensures.workers;
      have_read = back.readers;
      have_forwarded = back.forwarders;
      have_dispatched = back.tenant_workers;
      have_worked = back.workers;
    })
    c.run_works.ensures
