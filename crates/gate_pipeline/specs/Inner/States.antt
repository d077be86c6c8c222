-- Definitions about a worker's state that private contracts and proofs cite, beside `States`.
use Rattle.std.specs.Prelude.{◌≡◌, Some, Result, Ok, Err}
use Rattle.gate_record.specs.declared.memory.Memory.{Memory}
use Rattle.gate_record.specs.declared.transit.Stamped.{Stamped}
use Rattle.gate_config.specs.declared.config.Config.{Config}
use Rattle.gate_items.specs.declared.action.Action.{Action}
use Rattle.gate_items.specs.declared.action.Outcome.{Outcome}
use Rattle.gate_pipeline.specs.declared.which.Held.{Held}
use Rattle.gate_pipeline.specs.declared.which.Held.TheVariants as held
use Rattle.gate_pipeline.specs.States.{Processed, State, held_as, processed}

-- The call leaves this state and answers this; or memory was refused, and the worker holds `waiting`.
abbrev pub ComesTo : State × Processed → Held → State → State → Result Processed Memory → Type 0
ComesTo ended waiting old new (Ok answer) = (new, answer) ≡ ended
ComesTo ended waiting old new (Err memory) = new ≡ held_as (Some waiting) old

-- The value is processed; or memory was refused, and the worker holds it.
abbrev pub Processes : Config → State → Held → State → Result Processed Memory → Type 0
Processes config old waiting new result = ComesTo (processed config waiting old) waiting old new result

-- The trigger event is processed; or memory was refused, and the state is as it was.
abbrev pub Triggers : Config → State → Stamped → State → Result (Action × Outcome) Memory → Type 0
Triggers config old stamped new (Ok (action, outcome)) = (new, (Some stamped.stamp, action, outcome)) ≡ processed config (held.Event stamped) old
Triggers config old stamped new (Err memory) = new ≡ old
