use Rattle.gate_tenant.proofs.Apart.{one_connection_alone}
use Rattle.gate_tenant.proofs.laws.a_connection_is_chosen_by_itself.Goals as goal

pub returns : goal.returns
returns c = one_connection_alone
