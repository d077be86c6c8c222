use Rattle.std.proofs.Common.{ap}
use Rattle.gate_run_worker.proofs.Workings.{worker_ends, working_begins}
use Rattle.gate_run_worker.proofs.worker.PipelineWorkerWorkWorkerEnd.work.Goals as goal

pub loop-init : goal.loop-init
loop-init g c = (
  (tt, tt),
  working_begins c.args.self.config.now c.args.self.tenant.0 c.args.self.pipeline.0 _ c.requires.begins,
  ap (λ head. head.queue) c.requires.not_taken,
)

pub returns-in-Done : goal.returns-in-Done
returns-in-Done g c =
    let (iterator, was, head) = c.loop.invariant in
    worker_ends {w = c.step.new.self} _ _ _ _ c.end-in-Done.ensures.head c.end-in-Done.ensures.management c.end-in-Done.ensures.results c.end-in-Done.ensures.state (c.step.ensures.continues _ _ _ _ _ was)
