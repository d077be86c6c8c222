use Rattle.std.specs.Prelude.{◌≡◌, ◌+◌, ◌≤◌}
use Rattle.gate_tenant.specs.States.{reserved_of}
use Rattle.gate_core.specs.States.{with_gathered}
use Rattle.gate_core.specs.Views.{tenant_view}
use Rattle.gate_core.specs.Inner.Views.{gens_of_tenant, number_of_tenant}
use Rattle.gate_core.proofs.tenant.Tenant.fetch.Given as goal

-- so many were gathered, and for the others room was made
abbrev pub invariant-loop-fetched : goal.invariant-loop-fetched
invariant-loop-fetched l =
    (gens_of_tenant l.self ≡ gens_of_tenant l.fn.self)
    × (number_of_tenant l.self ≡ number_of_tenant l.fn.self)
    × (tenant_view l.self ≡ with_gathered l._fetched (tenant_view l.fn.self))
    × (l.count ≤ l._fetched + reserved_of l.self.dispatch)
