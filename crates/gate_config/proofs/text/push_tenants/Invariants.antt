use Rattle.std.proofs.Common.{◌≡◌, ◌++◌, ◌+◌, ◌<◌, ◌^◌, string_bytes, length}
use Rattle.std.specs.List.{enumerate_from, flat_map}
use Rattle.gate_config.specs.CheckText.{tenant_lines}
use Rattle.gate_config.specs.Lookups.{tenants_of}
use Rattle.gate_config.proofs.text.push_tenants.Given as goal

-- what is written and the lines of what is left make the whole
abbrev pub invariant-loop-tenant : goal.invariant-loop-tenant
invariant-loop-tenant l = record {
  written : string_bytes l.out ++ flat_map (tenant_lines l.config) (enumerate_from l.number l.tenants) ≡ string_bytes l.fn.out ++ flat_map (tenant_lines l.config) (enumerate_from 0 (tenants_of l.config));
  few : l.number + length l.tenants < 2 ^ 32;
}

abbrev pub decreases-loop-tenant : goal.decreases-loop-tenant
decreases-loop-tenant l = length l.tenants
