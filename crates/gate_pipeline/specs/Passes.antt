-- Passes of a pipeline: from management events to results to triggers, and then again.
use Rattle.std.specs.Prelude.{◌+◌, List, [], ◌∷◌, nat_lt, if◌then◌else◌}
use Rattle.gate_pipeline.specs.declared.pass.Phase.{Phase}
use Rattle.gate_pipeline.specs.declared.pass.Phase.TheVariants.{Management, Result, Trigger}
use Rattle.gate_pipeline.specs.declared.pass.Taking.{Taking}
use Rattle.gate_pipeline.specs.declared.pass.Taking.TheVariants.{Value, Nothing}
use Rattle.gate_pipeline.specs.declared.pass.Pass.{Pass}
use Rattle.gate_pipeline.specs.Limits.{most_takings}

abbrev pub next_phase : Phase → Phase
next_phase Management = Result
next_phase Result = Trigger
next_phase Trigger = Management

abbrev pub first_pass : Pass
first_pass = record { phase = Management; takings = 0 }

abbrev pub next_pass : Pass → Pass
next_pass pass = record { phase = next_phase pass.phase; takings = 0 }

-- the place after a taking: an empty taking, or the 256th of a phase, goes on to the next phase
abbrev pub after_taking : Pass → Taking → Pass
after_taking pass Value = if nat_lt (pass.takings + 1) most_takings then record { phase = pass.phase; takings = pass.takings + 1 } else next_pass pass
after_taking pass Nothing = next_pass pass

-- the place after takings, one after another
abbrev pub pass_after : Pass → List Taking → Pass
pass_after pass [] = pass
pass_after pass (taking ∷ takings) = pass_after (after_taking pass taking) takings
