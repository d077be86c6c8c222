use Rattle.std.proofs.Common.{◌≡◌, ◌++◌, string_bytes, length}
use Rattle.gate_status.specs.Status.{tenant_lines}
use Rattle.gate_status.proofs.status.push_tenants.Given as goal

-- what is written and the lines of what is left make the whole
abbrev pub invariant-loop-tenant : goal.invariant-loop-tenant
invariant-loop-tenant l = string_bytes l.out ++ tenant_lines l.tenants l.rows ≡ string_bytes l.fn.out ++ tenant_lines l.fn.tenants l.fn.rows

abbrev pub decreases-loop-tenant : goal.decreases-loop-tenant
decreases-loop-tenant l = length l.tenants
