use Rattle.gate_config.proofs.Along.{TenantsSoFar}
use Rattle.gate_config.proofs.tenants.check_tenants.Given as goal

abbrev pub invariant-loop-rank : goal.invariant-loop-rank
invariant-loop-rank l = TenantsSoFar l.entries l.rank l.names
