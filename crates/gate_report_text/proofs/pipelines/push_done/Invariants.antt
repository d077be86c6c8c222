use Rattle.std.proofs.Common.{◌≡◌, ◌++◌, ◌+◌, ◌<◌, ◌^◌, string_bytes, length}
use Rattle.gate_config.specs.Lookups.{connections_of}
use Rattle.gate_report_text.specs.ReportText.{done_lines}
use Rattle.gate_report_text.proofs.pipelines.push_done.Given as goal

-- what is written and the lines of what is left make the whole
abbrev pub invariant-loop-connection : goal.invariant-loop-connection
invariant-loop-connection l = record {
  written : string_bytes l.out ++ done_lines l.config l.number.0 l.conn l.connections l.names.tenant.now l.names.pipeline.now l.done ≡ string_bytes l.fn.out ++ done_lines l.config l.number.0 0 (connections_of l.config) l.names.tenant.now l.names.pipeline.now l.done;
  few : l.conn + length l.connections < 2 ^ 32;
}

abbrev pub decreases-loop-connection : goal.decreases-loop-connection
decreases-loop-connection l = length l.connections
