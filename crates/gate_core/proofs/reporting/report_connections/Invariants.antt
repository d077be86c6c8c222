use Rattle.std.proofs.Common.{◌≡◌, map, take}
use Rattle.gate_core.specs.Reports.{connection_report}
use Rattle.gate_core.specs.Views.{connection_view}
use Rattle.gate_core.proofs.reporting.report_connections.Given as goal

-- those so far
abbrev pub invariant-loop-connection : goal.invariant-loop-connection
invariant-loop-connection l = l.reports ≡ map connection_report (map connection_view (take l.connection-index l.connections))
