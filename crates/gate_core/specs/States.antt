-- The states of the core, as plain lists.
use Rattle.std.specs.Prelude.{ℕ, List, ◌++◌, Bool, Option, drop, option_and_then, option_map, slice_get, take}
use Rattle.gate_record.specs.declared.ids.TenantId.{TenantId}
use Rattle.gate_record.specs.declared.transit.ConnEntry.{ConnEntry}
use Rattle.gate_record.specs.declared.transit.TenantItem.{TenantItem}
use Rattle.gate_items.specs.Machine.{State as ItemsState}
use Rattle.gate_tenant.specs.States.{State as DispatchState}
use Rattle.gate_core.specs.declared.pipeline.Pipeline.{Pipeline}

-- A connection: how many records it accepted, and how many of them before each renewal; whether its end mark was put; the entries that wait
-- for its forwarder; the generation in force for the next entry that the forwarder takes; and the items that the forwarder has still to
-- send, each with its tenant
pub record ConnectionState : Type 0 where
  pub accepted : ℕ
  pub renewals : List ℕ
  pub closed : Bool
  pub queue : List ConnEntry
  pub generation : ℕ
  pub unsent : List (TenantId × TenantItem)

-- A tenant: the items that wait for its worker, what the worker has, and the tenant's pipelines by number
pub record TenantState : Type 0 where
  pub queue : List TenantItem
  pub dispatch : DispatchState
  pub pipelines : List Pipeline

-- the first n items of its queue are gathered
abbrev pub with_gathered : ℕ → TenantState → TenantState
with_gathered n tenant = record tenant { queue = drop n tenant.queue; dispatch = record tenant.dispatch { gathered = tenant.dispatch.gathered ++ take n tenant.queue } }

-- a world: its connections and its tenants, by number
pub record State : Type 0 where
  pub connections : List ConnectionState
  pub tenants : List TenantState

-- pipeline p of tenant t, if there is one
abbrev pub pipeline_at : ℕ → ℕ → State → Option Pipeline
pipeline_at t p state = option_and_then (λ (tenant : TenantState). slice_get tenant.pipelines p) (slice_get state.tenants t)

-- the queue items and the reports of that pipeline
abbrev pub items_at : ℕ → ℕ → State → Option ItemsState
items_at t p state = option_map (λ (pipe : Pipeline). pipe.worker.items) (pipeline_at t p state)
