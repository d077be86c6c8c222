use Rattle.gate_run_stages.proofs.TenantWorkers.{back}
use Rattle.gate_run_stages.proofs.tenant_worker.DispatchingStagePipelineItem.unsent.Goals as goal

pub returns : goal.returns
returns c first sent number was = (back was.0 c.ungiven.new.self c.ungiven.ensures.gens c.ungiven.ensures.tenant c.ungiven.ensures.fills, was.1)
