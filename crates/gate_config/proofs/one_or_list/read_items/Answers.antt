use Rattle.gate_config.proofs.Each.{tested_exit, read_more}
use Rattle.gate_config.proofs.one_or_list.read_items.Goals as goal

pub returns-in_err-read_item : goal.returns-in_err-read_item
returns-in_err-read_item g c = tested_exit _ c.index-values-position.result c.from_residual.result c.from_residual.ensures.1 c.loop-position-test.true c.index-values-position.is c.loop-position.invariant.tested c.in_err-read_item.ensures

pub loop-position-preserved : goal.loop-position-preserved
loop-position-preserved g c = read_more c.index-values-position.result c.in_ok-read_item.field-0 c.in_ok-push.ensures.items c.loop-position-test.true c.index-values-position.is c.loop-position.invariant c.in_ok-read_item.ensures.0 c.in_ok-read_item.ensures.1
