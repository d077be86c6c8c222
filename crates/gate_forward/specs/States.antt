-- The state of a forward, and what its calls make of it.
use Rattle.std.specs.Prelude.{ℕ, List, [], Bool, false, None}
use Rattle.gate_record.specs.declared.ids.TenantId.{TenantId}
use Rattle.gate_record.specs.declared.transit.TenantItem.{TenantItem}
use Rattle.gate_record.specs.Outboxes.{Unsent}
use Rattle.gate_config.specs.declared.generations.Generations.{Generations}
use Rattle.gate_forward.specs.declared.forward.Forward.{Forward}

-- what is to be sent, each item with its tenant; whether the end mark was loaded; and the generation in force for the next entry
pub record State : Type 0 where
  pub outbox : Unsent TenantId TenantItem
  pub marked : Bool
  pub generation : ℕ

abbrev pub state_of : Forward → State
state_of forward = record { outbox = forward.outbox; marked = forward.marked; generation = forward.generation }

-- the generations of the configuration by which entries are forwarded
abbrev pub gens_of : Forward → Generations
gens_of forward = forward.gens.now

-- the number of the connection
abbrev pub conn_of : Forward → ℕ
conn_of forward = forward.conn.0

-- nothing was loaded
abbrev pub first_state : State
first_state = record { outbox = record { items = []; out = None }; marked = false; generation = 0 }

-- with these items to be sent
abbrev pub with_items : List (TenantId × TenantItem) → State → State
with_items items state = record state { outbox = record state.outbox { items = items } }
