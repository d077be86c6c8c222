-- The threads of a run before they begin: what each of them has.
use Rattle.std.specs.Prelude.{◌≡◌, ℕ, List, Some, length, slice_get}
use Rattle.gate_config.specs.declared.config.Config.{Config}
use Rattle.gate_config.specs.declared.generations.Generations.{Generations}
use Rattle.gate_config.specs.Generations.{count_of}
use Rattle.gate_config.specs.Lookups.{pipelines_of}
use Rattle.gate_queue.specs.Seats.{Shape}
use Rattle.gate_run_stages.specs.declared.tenant_worker.TenantWorker.{TenantWorker}
use Rattle.gate_run_stages.specs.declared.forwarder.Forwarder.{Forwarder}
use Rattle.gate_run_reader.specs.declared.reader.Reader.{Reader}
use Rattle.gate_run_worker.specs.declared.worker.PipelineWorker.{PipelineWorker}
use Rattle.gate_run_posts.specs.Asked.{AskedView}
use Rattle.gate_run_stages.specs.TenantWorkers.{CanDispatch}
use Rattle.gate_run_stages.specs.Forwarders.{CanForward}
use Rattle.gate_run_threads.specs.Lists.{EachAt}
use Rattle.gate_run_posts.specs.Ports.{InboxEnds}
use Rattle.gate_run_reader.specs.Readers.{CanRead}
use Rattle.gate_run_worker.specs.Workers.{CanWork}

-- The cells by which readers are told to stop and to put generations in force: the stop cell, the number of generations, and the cells of
-- those after the first
pub record Cells : Type 0 where
  pub stop : ℕ
  pub generations : ℕ
  pub later : List ℕ

-- the cells for the generations of a configuration, by what the run can be asked for
abbrev pub cells_of : Generations → AskedView → Cells
cells_of gens asked = record { stop = asked.note.cell; generations = count_of gens; later = asked.cells }

-- this is the reader of connection c, with its feed and its queue
pub record IsReaderOf {F : Type 0} (faults : F → ℕ) (feeds : List F) (queues : List Shape) (cells : Cells) (c : ℕ) (reader : Reader F) : Type 0 where
  pub feed : slice_get feeds c ≡ Some reader.feed
  pub queue : slice_get queues c ≡ Some reader.queue.now
  pub of_stop : reader.cell.now ≡ cells.stop
  pub of_generations : reader.generations ≡ cells.generations
  pub of_later : reader.cells.now ≡ cells.later
  pub can : CanRead reader.queue.now reader.tail reader.cell.now reader.note reader.generations (faults reader.feed)

-- this is the forwarder of connection c, from its queue to those of the tenants
pub record IsForwarderOf (gens : Generations) (sources targets : List Shape) (c : ℕ) (forwarder : Forwarder) : Type 0 where
  pub by_gens : forwarder.gens.now ≡ gens
  pub of_conn : forwarder.conn.0 ≡ c
  pub source : slice_get sources c ≡ Some forwarder.source.now
  pub puts_into : forwarder.targets.now ≡ targets
  pub can : CanForward forwarder.gens.now forwarder.conn.0 forwarder.source.now forwarder.targets.now forwarder.head forwarder.tails.items

-- this is the worker of tenant t, from its queue to the trigger queues of its pipelines
pub record IsTenantWorkerOf (gens : Generations) (sources : List Shape) (targets : List (List Shape)) (t : ℕ) (tenant_worker : TenantWorker) : Type 0 where
  pub by_gens : tenant_worker.gens.now ≡ gens
  pub of_tenant : tenant_worker.tenant.0 ≡ t
  pub source : slice_get sources t ≡ Some tenant_worker.source.now
  pub puts_into : slice_get targets t ≡ Some tenant_worker.targets.now
  pub can : CanDispatch tenant_worker.gens.now tenant_worker.tenant.0 tenant_worker.source.now tenant_worker.targets.now tenant_worker.head tenant_worker.tails.items

-- this is the worker of pipeline p of tenant t, with its trigger queue and its place of the inbox
pub record IsWorkerOf {G : Type 0} (config : Config) (t : ℕ) (sources : List Shape) (inbox : List InboxEnds) (p : ℕ) (worker : PipelineWorker G) : Type 0 where
  pub by_config : worker.config.now ≡ config
  pub of_tenant : worker.tenant.0 ≡ t
  pub of_pipeline : worker.pipeline.0 ≡ p
  pub source : slice_get sources p ≡ Some worker.source.now
  pub own_inbox : slice_get inbox p ≡ Some (record { management = worker.management; results = worker.results })
  pub can : CanWork worker.config.now worker.tenant.0 worker.pipeline.0 worker.state worker.source.now worker.head

-- these are the workers of the pipelines of tenant t
pub record AreWorkersOf {G : Type 0} (config : Config) (sources : List (List Shape)) (inbox : List (List InboxEnds)) (t : ℕ) (workers : List (PipelineWorker G)) : Type 0 where
  pub own_sources : List Shape
  pub own_inbox : List InboxEnds
  pub sources_here : slice_get sources t ≡ Some own_sources
  pub inbox_here : slice_get inbox t ≡ Some own_inbox
  pub count : length workers ≡ length (pipelines_of config t)
  pub each : EachAt (IsWorkerOf config t own_sources own_inbox) workers
