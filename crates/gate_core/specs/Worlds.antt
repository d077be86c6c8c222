-- What contracts see of a world.
use Rattle.std.specs.Prelude.{◌≡◌, ◌<◌, ◌≤◌, ◌+◌, ◌^◌, ℕ, length, map, Some, slice_get}
use Rattle.gate_config.specs.declared.generations.Generations.{Generations}
use Rattle.gate_config.specs.Generations.{count_of}
use Rattle.gate_record.specs.Entries.{generation_behind}
use Rattle.gate_record.specs.declared.record.Record.{Record}
use Rattle.gate_core.specs.declared.step.Step.{Step}
use Rattle.gate_core.specs.declared.world.World.{World}
use Rattle.gate_core.specs.History.{offered_to}
use Rattle.gate_core.specs.States.{ConnectionState, State}
use Rattle.gate_core.specs.Views.{EachAt, connection_view, tenant_view}

-- the generations of the configuration by which the world runs
abbrev pub gens_of : World → Generations
gens_of world = world.gens.now

-- the part of a world that steps change
abbrev pub state_of : World → State
state_of world = record { connections = map connection_view world.connections.items; tenants = map tenant_view world.tenants.items }

-- No mark that waits goes beyond the last generation: once all waiting entries are taken, as many generations came into force as there were
-- renewals, and the configuration has that generation.
pub record RenewsWithin (gens : Generations) (conn : ConnectionState) : Type 0 where
  pub renewed : generation_behind conn.generation conn.queue ≡ length conn.renewals
  pub within : length conn.renewals < count_of gens

abbrev pub AllRenewWithin : Generations → State → Type 0
AllRenewWithin gens state = EachAt (λ c (conn : ConnectionState). RenewsWithin gens conn) state.connections

-- each connection has accepted at most n records
abbrev pub AcceptedAtMost : ℕ → State → Type 0
AcceptedAtMost n state = EachAt (λ c (conn : ConnectionState). conn.accepted ≤ n) state.connections

-- a connection to which the step offers a record, if there is one, has a number left for the record
abbrev pub HasNumber : State → Step → Type 0
HasNumber state s = (c : ℕ) (line : Record) (conn : ConnectionState) → offered_to c s ≡ Some line → slice_get state.connections c ≡ Some conn → conn.accepted + 1 < 2 ^ 64
