use Rattle.std.proofs.Common.{◌≡◌, take}
use Rattle.gate_core.proofs.transcript.run.Given as goal

-- the steps so far are copied
abbrev pub invariant-loop-step : goal.invariant-loop-step
invariant-loop-step l = l.queue ≡ take l.step-index l.steps
