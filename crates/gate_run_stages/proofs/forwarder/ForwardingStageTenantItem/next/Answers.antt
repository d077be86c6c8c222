use Rattle.gate_run_stages.proofs.Forwarders.{moved}
use Rattle.gate_run_stages.proofs.forwarder.ForwardingStageTenantItem.next.Goals as goal

pub returns-clause-moves : goal.returns-clause-moves
returns-clause-moves c first sent was =
    let did = c.in_ok-tenant.ensures in
    (moved was.0 c.next.new.self did.gens did.conn c.in_ok-tenant.tenant c.in_ok-tenant.item did.moves did.rest, was.1)
