use Rattle.gate_run_stages.proofs.Forwarders.{sent_one}
use Rattle.gate_run_stages.proofs.forwarder.ForwardingStageTenantItem.sent.Goals as goal

pub returns-clause-sends : goal.returns-clause-sends
returns-clause-sends c first sent item was = (sent_one was.0 c.sent.new.self c.sent.ensures.gens c.sent.ensures.conn c.sent.ensures.closes, was.1)
