use Rattle.std.specs.Prelude.{None}
use Rattle.gate_queue.specs.Seats.{IsHeadOf}
use Rattle.gate_run_worker.specs.Inner.Workers.{IsWorking}
use Rattle.gate_run_worker.proofs.worker.PipelineWorkerWorkWorkerEnd.work.Given as goal

abbrev pub invariant-loop : goal.invariant-loop
invariant-loop g l =
    ((goal.iterator-loop g).can_next l.iterator' × (goal.iterator-loop g).is_finite l.iterator')
    × IsWorking l.config l.fn.self.tenant.0 l.fn.self.pipeline.0 l.fn.self.head l.fn.self.management l.fn.self.results None l.working
    × IsHeadOf l.source l.working.head
