use Rattle.gate_config.proofs.Along.{sources_fault, sources_more}
use Rattle.gate_config.proofs.Faults.{exit}
use Rattle.gate_config.proofs.tenants.check_each_source.Goals as goal

pub returns-in_err-check_source : goal.returns-in_err-check_source
returns-in_err-check_source c =
    exit _ c.from_residual.result c.from_residual.ensures.1
    (sources_fault c.key-item.result c.loop-key-test.true c.key-item.is c.as_str.ensures.value c.loop-key.invariant c.in_err-check_source.ensures)

pub loop-key-preserved : goal.loop-key-preserved
loop-key-preserved c =
    sources_more c.key-item.result c.loop-key-test.true c.key-item.is c.as_str.ensures.value c.loop-key.invariant
    c.in_ok-check_source.ensures.0 c.in_ok-check_source.ensures.1
