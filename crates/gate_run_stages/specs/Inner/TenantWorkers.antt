-- What a tenant's worker at work has given.
use Rattle.std.specs.Prelude.{◌≡◌, ℕ, List, Some, None}
use Rattle.gate_record.specs.declared.transit.PipelineItem.{PipelineItem}
use Rattle.gate_record.specs.declared.transit.TenantItem.{TenantItem}
use Rattle.gate_config.specs.declared.generations.Generations.{Generations}
use Rattle.gate_tenant.specs.declared.dispatch.Dispatch.{Dispatch}
use Rattle.gate_tenant.specs.Dispatching.{pipeline_id}
use Rattle.gate_tenant.specs.Histories.{Happens, History, items_for}
use Rattle.gate_tenant.specs.States.{gens_of, state_of, tenant_of}
use Rattle.gate_queue.specs.Seats.{TakerSeat}
use Rattle.gate_run_stages.specs.declared.tenant_worker.Dispatching.{Dispatching}
use Rattle.gate_run_threads.specs.Seats.{values}

-- The worker of tenant t gathered all that was taken by its seat, and has given these items to each pipeline by number. No item is out.
pub record HasGiven (gens : Generations) (t : ℕ) (dispatch : Dispatch) (head : TakerSeat TenantItem) (given : ℕ → List PipelineItem) : Type 0 where
  pub by_gens : gens_of dispatch ≡ gens
  pub of_tenant : tenant_of dispatch ≡ t
  pub past : History
  pub happens : Happens gens t past
  pub now : past.state ≡ state_of dispatch
  pub none_out : past.out ≡ None
  pub gathered : past.taken ≡ values head.taken
  pub to_each : (p : ℕ) → given p ≡ items_for p past.given

-- The same, but this item is out for the pipeline of this number.
pub record HasOut (gens : Generations) (t : ℕ) (dispatch : Dispatch) (head : TakerSeat TenantItem) (given : ℕ → List PipelineItem) (number : ℕ) (item : PipelineItem) : Type 0 where
  pub by_gens : gens_of dispatch ≡ gens
  pub of_tenant : tenant_of dispatch ≡ t
  pub past : History
  pub happens : Happens gens t past
  pub now : past.state ≡ state_of dispatch
  pub out : past.out ≡ Some (pipeline_id number, item)
  pub receiver : (state_of dispatch).outbox.out ≡ Some (pipeline_id number)
  pub gathered : past.taken ≡ values head.taken
  pub to_each : (p : ℕ) → given p ≡ items_for p past.given

-- the worker that began as the first has come so far as the second
abbrev pub IsDispatching : Dispatching → Dispatching → (ℕ → List PipelineItem) → Type 0
IsDispatching first now given = HasGiven (gens_of first.dispatch) (tenant_of first.dispatch) now.dispatch now.head given × (now.head.queue ≡ first.head.queue)

-- the same, but this item is out for the pipeline of this number
abbrev pub IsDispatchingOut : Dispatching → Dispatching → (ℕ → List PipelineItem) → ℕ → PipelineItem → Type 0
IsDispatchingOut first now given number item = HasOut (gens_of first.dispatch) (tenant_of first.dispatch) now.dispatch now.head given number item × (now.head.queue ≡ first.head.queue)

-- whatever was given before, the items that were taken since were gathered, and nothing more was given
abbrev pub Gathers : Dispatch → TakerSeat TenantItem → Dispatch → TakerSeat TenantItem → Type 0
Gathers before head now head' = (gens : Generations) (t : ℕ) (given : ℕ → List PipelineItem) → HasGiven gens t before head given → HasGiven gens t now head' given
