use Rattle.std.proofs.Common.{◌≡◌, ◌++◌, flat_map, take, string_bytes}
use Rattle.gate_line.specs.Words.{spaced_number}
use Rattle.gate_report_text.proofs.connections.push_each.Given as goal

-- the numbers so far
abbrev pub invariant-loop-number : goal.invariant-loop-number
invariant-loop-number l = string_bytes l.out ≡ string_bytes l.fn.out ++ flat_map spaced_number (take l.number-index l.numbers)
