use Rattle.std.proofs.Common.{rules, string_bytes}
use Rattle.gate_config.specs.CheckText.{pipeline_line}
use Rattle.gate_config.proofs.Lines.{one_line}
use Rattle.gate_config.proofs.text.push_pipelines.Goals as goal

pub loop-pipeline-preserved : goal.loop-pipeline-preserved
loop-pipeline-preserved c = record {
  written =
      one_line (pipeline_line c.args.config.now c.args.tenant.0) c.loop-pipeline.number c.in-Some.pipeline.now c.loop-pipeline.pipelines.now c.in-Some.more.now
      (string_bytes c.loop-pipeline.out) (string_bytes c.push_str.new.self) (string_bytes c.in_ok-line.line) _ (search rules) (search rules) (search rules) c.loop-pipeline.invariant.written;
  few = search rules;
}
