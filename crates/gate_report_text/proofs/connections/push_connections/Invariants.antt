use Rattle.std.proofs.Common.{◌≡◌, ◌++◌, string_bytes, length}
use Rattle.gate_report_text.specs.ReportText.{connection_lines}
use Rattle.gate_report_text.proofs.connections.push_connections.Given as goal

-- what is written and the lines of what is left make the whole
abbrev pub invariant-loop-name : goal.invariant-loop-name
invariant-loop-name l = string_bytes l.out ++ connection_lines l.names l.reports ≡ string_bytes l.fn.out ++ connection_lines l.fn.names l.fn.reports

abbrev pub decreases-loop-name : goal.decreases-loop-name
decreases-loop-name l = length l.names
