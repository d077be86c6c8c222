use Rattle.std.proofs.Common.{◌≡◌, ◌++◌, ◌+◌, ◌<◌, ◌^◌, string_bytes, length}
use Rattle.std.specs.List.{enumerate_from, flat_map}
use Rattle.gate_config.specs.CheckText.{connection_line}
use Rattle.gate_config.specs.Lookups.{connections_of}
use Rattle.gate_config.proofs.text.push_connections.Given as goal

-- what is written and the lines of what is left make the whole
abbrev pub invariant-loop-name : goal.invariant-loop-name
invariant-loop-name l = record {
  written : string_bytes l.out ++ flat_map connection_line (enumerate_from l.number l.names) ≡ string_bytes l.fn.out ++ flat_map connection_line (enumerate_from 0 (connections_of l.config));
  few : l.number + length l.names < 2 ^ 32;
}

abbrev pub decreases-loop-name : goal.decreases-loop-name
decreases-loop-name l = length l.names
