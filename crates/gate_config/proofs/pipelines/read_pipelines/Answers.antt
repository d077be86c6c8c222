use Rattle.gate_config.proofs.Along.{along_exit, read_more, read_all}
use Rattle.gate_config.proofs.pipelines.read_pipelines.Goals as goal

pub returns-in_err-pipeline : goal.returns-in_err-pipeline
returns-in_err-pipeline c = along_exit _ c.index-entries-rank.result c.from_residual.result c.from_residual.ensures.1 c.loop-rank-test.true c.index-entries-rank.is c.loop-rank.invariant.tested c.in_err-pipeline.ensures

pub loop-rank-preserved : goal.loop-rank-preserved
loop-rank-preserved c = read_more c.index-entries-rank.result c.in_ok-pipeline.pipeline c.in_ok-push.ensures.items c.loop-rank-test.true c.index-entries-rank.is c.loop-rank.invariant c.in_ok-pipeline.ensures.0 c.in_ok-pipeline.ensures.1

pub returns : goal.returns
returns c = rw c.new.ensures (read_all c.loop-rank-test.false c.loop-rank.invariant)
