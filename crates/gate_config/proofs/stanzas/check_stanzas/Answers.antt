use Rattle.gate_config.proofs.Each.{flat_exit, tested_more, flat_all}
use Rattle.gate_config.proofs.stanzas.check_stanzas.Goals as goal

pub returns-in_err-check_entry : goal.returns-in_err-check_entry
returns-in_err-check_entry c = flat_exit _ c.entry-item.result c.from_residual.result c.from_residual.ensures.1 c.loop-entry-test.true c.entry-item.is c.loop-entry.invariant c.in_err-check_entry.ensures

pub loop-entry-preserved : goal.loop-entry-preserved
loop-entry-preserved c = tested_more c.entry-item.result c.loop-entry-test.true c.entry-item.is c.loop-entry.invariant c.in_ok-check_entry.ensures.0

pub returns : goal.returns
returns c = (flat_all c.loop-entry-test.false c.loop-entry.invariant, tt)
