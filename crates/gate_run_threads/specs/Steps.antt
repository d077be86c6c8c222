-- What is true after a step of a thread.
use Rattle.gate_run_threads.specs.declared.step_outcome.StepOutcome.{StepOutcome}
use Rattle.gate_run_threads.specs.declared.step_outcome.StepOutcome.TheVariants.{Ready, Pending, Done}

-- this holds unless the thread returns
abbrev pub GoesOn : StepOutcome → Type 0 → Type 0
GoesOn Ready holds = holds
GoesOn Pending holds = holds
GoesOn Done holds = Unit {0}
