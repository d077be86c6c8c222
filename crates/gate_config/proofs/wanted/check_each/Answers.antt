use Rattle.gate_config.proofs.Each.{tested_exit, tested_more}
use Rattle.gate_config.proofs.wanted.check_each.Goals as goal

pub returns-in_err-check_item : goal.returns-in_err-check_item
returns-in_err-check_item c = tested_exit _ c.index-items-position.result c.from_residual.result c.from_residual.ensures.1 c.loop-position-test.true c.index-items-position.is c.loop-position.invariant c.in_err-check_item.ensures

pub loop-position-preserved : goal.loop-position-preserved
loop-position-preserved c = tested_more c.index-items-position.result c.loop-position-test.true c.index-items-position.is c.loop-position.invariant c.in_ok-check_item.ensures.0
