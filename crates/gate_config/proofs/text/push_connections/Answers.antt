use Rattle.std.proofs.Common.{rules, string_bytes}
use Rattle.gate_config.specs.CheckText.{connection_line}
use Rattle.gate_config.proofs.Lines.{one_line}
use Rattle.gate_config.proofs.text.push_connections.Goals as goal

pub loop-name-preserved : goal.loop-name-preserved
loop-name-preserved c = record {
  written =
      one_line connection_line c.loop-name.number c.in-Some.name.now c.loop-name.names.now c.in-Some.more.now
      (string_bytes c.loop-name.out) (string_bytes c.push_str.new.self) (string_bytes c.in_ok-line.line) _ (search rules) (search rules) (search rules) c.loop-name.invariant.written;
  few = search rules;
}
