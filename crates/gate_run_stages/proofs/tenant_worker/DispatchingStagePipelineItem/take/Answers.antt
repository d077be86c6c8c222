use Rattle.gate_run_stages.proofs.Stages.{goes_on}
use Rattle.gate_run_stages.proofs.tenant_worker.DispatchingStagePipelineItem.take.Goals as goal

pub returns-then-room-eq0-clause-keeps : goal.returns-then-room-eq0-clause-keeps
returns-then-room-eq0-clause-keeps g c first sent was = c.match_gathered.ensures.keeps first sent (c.wake.ensures.keeps first sent was)

pub returns-in-Pending-clause-keeps : goal.returns-in-Pending-clause-keeps
returns-in-Pending-clause-keeps g c first sent was = c.match_gathered-in-Pending.ensures.keeps first sent (c.gather_waiting.ensures.keeps first sent (c.wake.ensures.keeps first sent was))

pub returns-in_default : goal.returns-in_default
returns-in_default g c = record {
  keeps = λ first sent was. c.gather_waiting.ensures.keeps first sent (c.wake.ensures.keeps first sent was);
  ready = goes_on c.gather_waiting.result (c.gather_waiting.ensures.none_out, c.gather_waiting.ensures.head);
}
