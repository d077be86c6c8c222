use Rattle.gate_config.proofs.Along.{along_exit, tenants_more}
use Rattle.gate_config.proofs.tenants.check_tenants.Goals as goal

pub returns-in_err-check_entry : goal.returns-in_err-check_entry
returns-in_err-check_entry c = along_exit _ c.index-entries-rank.result c.from_residual.result c.from_residual.ensures.1 c.loop-rank-test.true c.index-entries-rank.is c.loop-rank.invariant.tested c.in_err-check_entry.ensures

pub loop-rank-preserved : goal.loop-rank-preserved
loop-rank-preserved c =
    tenants_more c.index-entries-rank.result c.loop-rank-test.true c.index-entries-rank.is c.loop-rank.invariant
    c.in_ok-check_entry.ensures.0 c.in_ok-check_entry.ensures.1
