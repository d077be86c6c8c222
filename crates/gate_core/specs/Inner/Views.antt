-- Further definitions about `Views`, which only private contracts and proofs cite.
use Rattle.std.specs.Prelude.{◌≡◌, ◌<◌, ◌+◌, ◌^◌, ℕ, List}
use Rattle.gate_config.specs.declared.generations.Generations.{Generations}
use Rattle.gate_forward.specs.States.{conn_of, gens_of}
use Rattle.gate_tenant.specs.States.{tenant_of}
use Rattle.gate_tenant.specs.States as dispatch
use Rattle.gate_core.specs.declared.connection.Connection.{Connection}
use Rattle.gate_core.specs.declared.connection.ConnectionStep.{ConnectionStep}
use Rattle.gate_core.specs.declared.connection.ConnectionStep.TheVariants.{Offer}
use Rattle.gate_core.specs.declared.tenant.Tenant.{Tenant}
use Rattle.gate_core.specs.States.{ConnectionState}
use Rattle.gate_core.specs.Views.{EachAt}

-- the connection has a number left for a record that the step offers
abbrev pub HasNumberLeft : ConnectionStep → ConnectionState → Type 0
HasNumberLeft (Offer line) conn = conn.accepted + 1 < 2 ^ 64
HasNumberLeft other conn = Unit {0}

-- the generations by which its forwarder forwards
abbrev pub gens_of_connection : Connection → Generations
gens_of_connection conn = gens_of conn.forward

-- the number that its forwarder has
abbrev pub number_of_connection : Connection → ℕ
number_of_connection conn = conn_of conn.forward

-- the connection works by these generations and has this number
abbrev pub IsConnection : Generations → ℕ → Connection → Type 0
IsConnection gens c conn = (gens_of_connection conn ≡ gens) × (number_of_connection conn ≡ c)

abbrev pub AreConnections : Generations → List Connection → Type 0
AreConnections gens conns = EachAt (IsConnection gens) conns

-- the generations by which its dispatch matches
abbrev pub gens_of_tenant : Tenant → Generations
gens_of_tenant tenant = dispatch.gens_of tenant.dispatch

-- the number that its dispatch has
abbrev pub number_of_tenant : Tenant → ℕ
number_of_tenant tenant = tenant_of tenant.dispatch

-- the tenant works by these generations and has this number
abbrev pub IsTenant : Generations → ℕ → Tenant → Type 0
IsTenant gens t tenant = (gens_of_tenant tenant ≡ gens) × (number_of_tenant tenant ≡ t)

abbrev pub AreTenants : Generations → List Tenant → Type 0
AreTenants gens tenants = EachAt (IsTenant gens) tenants
