use Rattle.gate_config.proofs.Each.{flat_exit, tested_more, flat_all}
use Rattle.gate_config.proofs.entries.check_each_key.Goals as goal

pub returns-in_err-check_key : goal.returns-in_err-check_key
returns-in_err-check_key c = flat_exit _ c.key-item.result c.from_residual.result c.from_residual.ensures.1 c.loop-key-test.true c.key-item.is c.loop-key.invariant (rw c.as_str.ensures.value at c.in_err-check_key.ensures)

pub loop-key-preserved : goal.loop-key-preserved
loop-key-preserved c =
    tested_more c.key-item.result c.loop-key-test.true c.key-item.is c.loop-key.invariant (rw c.as_str.ensures.value at c.in_ok-check_key.ensures.0)

pub returns : goal.returns
returns c = (flat_all c.loop-key-test.false c.loop-key.invariant, tt)
