use Rattle.std.proofs.Common.{◌≡◌, ◌++◌, string_bytes, length}
use Rattle.gate_report_text.specs.ReportText.{numbers_text}
use Rattle.gate_report_text.proofs.pipelines.push_numbers.Given as goal

-- what is written and the numbers of what is left make the whole
abbrev pub invariant-loop-stamp : goal.invariant-loop-stamp
invariant-loop-stamp l = string_bytes l.out ++ numbers_text l.conn.0 l.stamps ≡ string_bytes l.fn.out ++ numbers_text l.conn.0 l.fn.stamps

abbrev pub decreases-loop-stamp : goal.decreases-loop-stamp
decreases-loop-stamp l = length l.stamps
