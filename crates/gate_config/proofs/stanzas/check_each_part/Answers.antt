use Rattle.gate_config.proofs.Each.{flat_exit, tested_more, flat_all}
use Rattle.gate_config.proofs.stanzas.check_each_part.Goals as goal

pub returns-in_err-check_part : goal.returns-in_err-check_part
returns-in_err-check_part c = flat_exit _ c.pipeline-item.result c.from_residual.result c.from_residual.ensures.1 c.loop-pipeline-test.true c.pipeline-item.is c.loop-pipeline.invariant (rw c.as_str.ensures at c.in_err-check_part.ensures)

pub loop-pipeline-preserved : goal.loop-pipeline-preserved
loop-pipeline-preserved c =
    tested_more c.pipeline-item.result c.loop-pipeline-test.true c.pipeline-item.is c.loop-pipeline.invariant (rw c.as_str.ensures at c.in_ok-check_part.ensures.0)

pub returns : goal.returns
returns c = (flat_all c.loop-pipeline-test.false c.loop-pipeline.invariant, tt)
