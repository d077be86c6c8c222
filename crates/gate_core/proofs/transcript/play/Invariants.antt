use Rattle.std.proofs.Common.{◌≡◌, length}
use Rattle.gate_core.specs.Worlds.{state_of, gens_of}
use Rattle.gate_core.proofs.Runs.{Runs}
use Rattle.gate_core.proofs.transcript.play.Given as goal

-- what was answered and what is left make the run
abbrev pub invariant-loop-step : goal.invariant-loop-step
invariant-loop-step l = record {
  runs : Runs l.gens l.answers (state_of l.world) l.steps l.fn.steps l._total;
  same : gens_of l.world ≡ l.gens;
}

abbrev pub decreases-loop-step : goal.decreases-loop-step
decreases-loop-step l = length l.steps
