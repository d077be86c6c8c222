use Rattle.gate_run_stages.proofs.TenantWorkers.{given_one}
use Rattle.gate_run_stages.proofs.tenant_worker.DispatchingStagePipelineItem.sent.Goals as goal

pub returns-clause-sends : goal.returns-clause-sends
returns-clause-sends c first sent item was = (given_one was.0 c.given.new.self c.given.ensures.gens c.given.ensures.tenant c.given.ensures.closes, was.1)
