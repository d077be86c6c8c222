use Rattle.gate_run_stages.proofs.Forwarders.{back}
use Rattle.gate_run_stages.proofs.forwarder.ForwardingStageTenantItem.unsent.Goals as goal

pub returns : goal.returns
returns c first sent number was = (back was.0 c.unsent.new.self c.unsent.ensures.gens c.unsent.ensures.conn c.unsent.ensures.fills, was.1)
