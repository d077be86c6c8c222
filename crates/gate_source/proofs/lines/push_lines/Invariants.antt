use Rattle.std.proofs.Common.{◌≡◌, ◌++◌, length}
use Rattle.gate_record.specs.Lines.{ended_records, unfinished_line}
use Rattle.gate_source.proofs.lines.push_lines.Given as goal

-- what was pushed and what the rest ends is all; and the rest has the line that doesn't end
abbrev pub invariant-loop-line : goal.invariant-loop-line
invariant-loop-line l = record {
  pushed : l.records.items ++ ended_records l.rest ≡ l.initial.records.items ++ ended_records l.initial.rest;
  rest : unfinished_line l.rest ≡ unfinished_line l.initial.rest;
}

abbrev pub decreases-loop-line : goal.decreases-loop-line
decreases-loop-line l = length l.rest
