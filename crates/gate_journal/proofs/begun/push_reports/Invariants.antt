use Rattle.std.proofs.Common.{◌≡◌, ◌++◌, flat_map, string_bytes, length}
use Rattle.gate_journal.specs.Lines.{report_line}
use Rattle.gate_journal.proofs.begun.push_reports.Given as goal

-- what is written and the lines of what is left make the whole
abbrev pub invariant-loop-report : goal.invariant-loop-report
invariant-loop-report l = string_bytes l.out ++ flat_map (report_line l.place.config.now l.place.tenant.0 l.place.pipeline.0) l.rest ≡ string_bytes l.fn.out ++ flat_map (report_line l.place.config.now l.place.tenant.0 l.place.pipeline.0) l.fn.reports

abbrev pub decreases-loop-report : goal.decreases-loop-report
decreases-loop-report l = length l.rest
