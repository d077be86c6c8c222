use Rattle.std.proofs.Common.{◌≡◌, ◌++◌, ◌+◌, ◌<◌, ◌^◌, string_bytes, length}
use Rattle.gate_config.specs.Lookups.{tenants_of}
use Rattle.gate_report_text.specs.ReportText.{tenant_lines}
use Rattle.gate_report_text.proofs.pipelines.push_tenants.Given as goal

-- what is written and the lines of what is left make the whole
abbrev pub invariant-loop-tenant : goal.invariant-loop-tenant
invariant-loop-tenant l = record {
  written : string_bytes l.out ++ tenant_lines l.config l.number l.tenants l.reports ≡ string_bytes l.fn.out ++ tenant_lines l.config 0 (tenants_of l.config) l.fn.reports;
  few : l.number + length l.tenants < 2 ^ 32;
}

abbrev pub decreases-loop-tenant : goal.decreases-loop-tenant
decreases-loop-tenant l = length l.tenants
