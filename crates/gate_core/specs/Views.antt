-- What contracts see of a connection and of a tenant at work.
use Rattle.std.specs.Prelude.{◌≡◌, ℕ, List, Some, slice_get}
use Rattle.gate_forward.specs.States.{state_of as forward_state}
use Rattle.gate_tenant.specs.States.{state_of}
use Rattle.gate_core.specs.declared.connection.Connection.{Connection}
use Rattle.gate_core.specs.declared.tenant.Tenant.{Tenant}
use Rattle.gate_core.specs.States.{ConnectionState, TenantState}

-- each element of the list is what it should be at its place
abbrev pub EachAt : {X : Type 0} → (ℕ → X → Type 0) → List X → Type 0
EachAt {X} has xs = (i : ℕ) (x : X) → slice_get xs i ≡ Some x → has i x

-- ---- a connection

abbrev pub connection_view : Connection → ConnectionState
connection_view conn = record {
  accepted = conn.accepted;
  renewals = conn.renewals.items;
  closed = conn.closed;
  queue = conn.queue.items;
  generation = (forward_state conn.forward).generation;
  unsent = (forward_state conn.forward).outbox.items;
}

-- ---- a tenant

abbrev pub tenant_view : Tenant → TenantState
tenant_view tenant = record { queue = tenant.queue.items; dispatch = state_of tenant.dispatch; pipelines = tenant.pipelines.items }
