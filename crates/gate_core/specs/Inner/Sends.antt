-- What the sending of one connection's forwarder does to the connection and to the tenants.
use Rattle.std.specs.Prelude.{◌≡◌, ℕ, List, Some, Result, slice_get, slice_set}
use Rattle.gate_record.specs.declared.memory.Memory.{Memory}
use Rattle.gate_core.specs.declared.answer.Answer.{Answer}
use Rattle.gate_core.specs.Answers.{Does}
use Rattle.gate_core.specs.States.{ConnectionState, TenantState, State}
use Rattle.gate_core.specs.Steps.{send}

abbrev pub state : List ConnectionState → List TenantState → State
state connections tenants = record { connections = connections; tenants = tenants }

-- this is the step `send` of each world in which the connection is, whatever its number there
abbrev pub Sends : ConnectionState → List TenantState → ConnectionState → List TenantState → Result Answer Memory → Type 0
Sends conn tenants conn' tenants' result = (c : ℕ) (connections : List ConnectionState) → slice_get connections c ≡ Some conn →
    Does (state connections tenants) (send c (state connections tenants)) (state (slice_set connections c conn') tenants') result
