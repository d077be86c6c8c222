use Rattle.std.proofs.Common.{◌≡◌, map, take}
use Rattle.gate_core.specs.Reports.{tenant_report}
use Rattle.gate_core.specs.Views.{tenant_view}
use Rattle.gate_core.proofs.reporting.report_tenants.Given as goal

-- those so far
abbrev pub invariant-loop-tenant : goal.invariant-loop-tenant
invariant-loop-tenant l = l.reports ≡ map tenant_report (map tenant_view (take l.tenant-index l.tenants))
