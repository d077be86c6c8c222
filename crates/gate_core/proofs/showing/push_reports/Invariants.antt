use Rattle.std.proofs.Common.{◌≡◌, ◌++◌, flat_map, string_bytes, take}
use Rattle.gate_core.specs.Shows.{report_line}
use Rattle.gate_core.proofs.showing.push_reports.Given as goal

-- the reports so far are written
abbrev pub invariant-loop-report : goal.invariant-loop-report
invariant-loop-report l = string_bytes l.out ≡ string_bytes l.fn.out ++ flat_map report_line (take l.report-index l.reports)
