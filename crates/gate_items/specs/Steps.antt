-- What a call that applies an action promises.
use Rattle.std.specs.Prelude.{◌≡◌, Result, Ok, Err}
use Rattle.gate_record.specs.declared.memory.Memory.{Memory}
use Rattle.gate_items.specs.declared.action.Outcome.{Outcome}
use Rattle.gate_items.specs.Machine.{State}

-- The call leaves the given state and answers the given outcome; or memory was refused, and the state is as it was.
abbrev pub Does : State → State × Outcome → State → Result Outcome Memory → Type 0
Does old given new (Ok outcome) = (new, outcome) ≡ given
Does old given new (Err memory) = new ≡ old
