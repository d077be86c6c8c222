use Rattle.std.proofs.Common.{refl}
use Rattle.gate_run_stages.proofs.TenantWorkers.{moved}
use Rattle.gate_run_stages.proofs.tenant_worker.DispatchingStagePipelineItem.next.Goals as goal

pub returns-clause-moves : goal.returns-clause-moves
returns-clause-moves c first sent was =
    let did = c.in_ok-pipeline.ensures in
    (moved was.0 c.next.new.self c.args.self.now.head did.gens did.tenant c.in_ok-pipeline.pipeline c.in_ok-pipeline.item did.moves did.rest refl, was.1)
