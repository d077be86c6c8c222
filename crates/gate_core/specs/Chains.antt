-- Steps of which some are refused memory.
use Rattle.std.specs.Prelude.{◌≡◌, ℕ, List, [], ◌∷◌, Option, Some, None, Result, Ok, Err, option_and_then}
use Rattle.std.specs.List.{filter_map}
use Rattle.gate_record.specs.declared.memory.Memory.{Memory}
use Rattle.gate_config.specs.declared.generations.Generations.{Generations}
use Rattle.gate_pipeline.specs.declared.which.Held.{Held}
use Rattle.gate_pipeline.specs.States.{Processed, held_as, processed}
use Rattle.gate_core.specs.declared.answer.Answer.{Answer}
use Rattle.gate_core.specs.declared.pipeline.Pipeline.{Pipeline}
use Rattle.gate_core.specs.declared.step.Step.{Step}
use Rattle.gate_core.specs.History.{History, processed_by}
use Rattle.gate_core.specs.Promises.{AnswersRightly, Delivers, Keeps, Processes}
use Rattle.gate_core.specs.Reports.{report_after, report_of}
use Rattle.gate_core.specs.States.{State, pipeline_at}
use Rattle.gate_core.specs.Steps.{first, refused_step, step_of}
use Rattle.gate_core.specs.Worlds.{AllRenewWithin}

-- a step, its answer or the refusal of memory, and the state that it left
abbrev pub Attempt : Type 0
Attempt = Step × Result Answer Memory × State

-- the step left and answered what its definition says, or memory was refused and it left the state that a refusal leaves
abbrev pub Attempts : Generations → State → Step → Result Answer Memory → State → Type 0
Attempts gens state s (Ok answer) next = (next, answer) ≡ step_of gens state s
Attempts gens state s (Err memory) next = next ≡ refused_step state s

-- each attempt began where the one before it left off
abbrev pub IsChain : Generations → State → List Attempt → Type 0
IsChain gens state [] = Unit {0}
IsChain gens state ((s, result, next) ∷ attempts) = Attempts gens state s result next × IsChain gens next attempts

-- the history of the steps that were answered: one that was refused memory adds nothing to it
abbrev pub answered_by : Step → Result Answer Memory → Option (Step × Answer)
answered_by s (Ok answer) = Some (s, answer)
answered_by s (Err memory) = None

abbrev pub answered : Attempt → Option (Step × Answer)
answered attempt = answered_by attempt.0 attempt.1

abbrev pub answered_history : List Attempt → History
answered_history attempts = filter_map answered attempts

-- the state that the attempts leave
abbrev pub left_behind : State → List Attempt → State
left_behind state [] = state
left_behind state ((s, result, next) ∷ attempts) = left_behind next attempts

-- This was processed first, or nothing was processed and this is still held.
abbrev pub IsNext : Held → Processed → List Processed → Option Pipeline → Type 0
IsNext waits one [] pipe = option_and_then (λ (left : Pipeline). left.worker.held) pipe ≡ Some waits
IsNext waits one (first ∷ more) pipe = first ≡ one

-- For all generations of a configuration and every chain of attempts from the first state on, all that is promised of a run holds of the
-- steps that were answered. What a pipeline holds is what it processes next, whatever else is done or refused.
pub record EveryChainDelivers : Type 0 where
  pub delivers : (gens : Generations) (attempts : List Attempt) → IsChain gens (first gens) attempts → Delivers gens (answered_history attempts)
  pub rightly : (gens : Generations) (attempts : List Attempt) → IsChain gens (first gens) attempts → AnswersRightly gens [] (answered_history attempts)
  pub report : (gens : Generations) (attempts : List Attempt) → IsChain gens (first gens) attempts → report_of (left_behind (first gens) attempts) ≡ report_after gens.first (answered_history attempts)
  pub processes : (gens : Generations) (attempts : List Attempt) → IsChain gens (first gens) attempts → Processes gens.first (answered_history attempts)
  pub keeps : (gens : Generations) (attempts : List Attempt) → IsChain gens (first gens) attempts → Keeps gens.first (answered_history attempts) (left_behind (first gens) attempts)
  pub within : (gens : Generations) (attempts : List Attempt) → IsChain gens (first gens) attempts → AllRenewWithin gens (left_behind (first gens) attempts)
  pub held : (gens : Generations) (state : State) (attempts : List Attempt) → IsChain gens state attempts →
      (t p : ℕ) (pipe : Pipeline) (waits : Held) → pipeline_at t p state ≡ Some pipe → pipe.worker.held ≡ Some waits →
      IsNext waits (processed gens.first waits (held_as None pipe.worker)).1 (processed_by t p (answered_history attempts)) (pipeline_at t p (left_behind state attempts))
