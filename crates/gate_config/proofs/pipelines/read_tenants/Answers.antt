use Rattle.gate_config.proofs.Each.{flat_exit, read_more, flat_all, read_all}
use Rattle.gate_config.proofs.pipelines.read_tenants.Goals as goal

pub returns-in_err-tenant : goal.returns-in_err-tenant
returns-in_err-tenant c = flat_exit _ c.entry-item.result c.from_residual.result c.from_residual.ensures.1 c.loop-entry-test.true c.entry-item.is c.loop-entry.invariant.tested c.in_err-tenant.ensures

pub loop-entry-preserved : goal.loop-entry-preserved
loop-entry-preserved c = read_more c.entry-item.result c.in_ok-tenant.tenant c.in_ok-push.ensures.items c.loop-entry-test.true c.entry-item.is c.loop-entry.invariant c.in_ok-tenant.ensures.0 c.in_ok-tenant.ensures.1

pub returns : goal.returns
returns c =
    (flat_all c.loop-entry-test.false c.loop-entry.invariant.tested, rw c.new.ensures (read_all c.loop-entry-test.false c.loop-entry.invariant))
