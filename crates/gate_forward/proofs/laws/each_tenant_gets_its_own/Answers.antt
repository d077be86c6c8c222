use Rattle.gate_forward.proofs.Sending.{each_tenant_gets_its_own}
use Rattle.gate_forward.proofs.laws.each_tenant_gets_its_own.Goals as goal

pub returns : goal.returns
returns c = each_tenant_gets_its_own c.entries_have_generations.ensures
