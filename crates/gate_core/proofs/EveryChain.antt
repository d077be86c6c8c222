-- What holds of every chain of attempts.
use Rattle.std.proofs.Common.{◌≡◌, sym, subst, List, [], ◌∷◌, ◌++◌, Ok, Err, append-nil, append_assoc}
use Rattle.gate_config.specs.declared.generations.Generations.{Generations}
use Rattle.gate_core.proofs.LowerLaws.{Laws}
use Rattle.gate_items.specs.History.{CancelledChangesNothing}
use Rattle.gate_items.specs.Outcomes.{OutcomesAreSaid}
use Rattle.gate_tenant.specs.Histories.{EachGetsItsOwn, NothingIsLost}
use Rattle.gate_core.specs.declared.answer.Answer.{Answer}
use Rattle.gate_core.specs.declared.step.Step.{Step}
use Rattle.gate_core.specs.Chains.{Attempt, EveryChainDelivers, IsChain, answered_history, left_behind}
use Rattle.gate_core.specs.History.{History}
use Rattle.gate_core.specs.Promises.{AnswersRightly, IsRightAnswer}
use Rattle.gate_core.specs.States.{State}
use Rattle.gate_core.specs.Steps.{first, refused_step, step_of}
use Rattle.gate_core.proofs.AllSteps.{holds_on}
use Rattle.gate_core.specs.Worlds.{AllRenewWithin, RenewsWithin}
use Rattle.gate_core.proofs.Beginnings.{first_have, first_holds}
use Rattle.gate_core.proofs.Holding.{next_is_held}
use Rattle.gate_core.proofs.Moving.{after_refusal, after_step}
use Rattle.gate_core.proofs.Outcomes.{delivers}
use Rattle.gate_core.proofs.Processing.{keeps, processes}
use Rattle.gate_core.proofs.Refusals.{refused_holds}
use Rattle.gate_core.proofs.Renewing.{new_within, renewing_moves}
use Rattle.gate_core.proofs.Reported.{reported}
use Rattle.gate_core.proofs.RightAnswers.{right_answer}
use Rattle.gate_core.proofs.Streams.{Holds}

module _ (gens : Generations) where
  -- one step that is answered
  answered_holds : (h : History) (state : State) (s : Step) (answer : Answer) (next : State) → (next, answer) ≡ step_of gens state s → Holds gens h state → Holds gens (h ++ (s, answer) ∷ []) next
  answered_holds h state s answer next does holds = subst (λ (after : State × Answer). Holds gens (h ++ (s, after.1) ∷ []) after.0) (sym does) (holds_on gens h state s holds)

  -- one that is refused
  next_holds : (h : History) (state : State) (s : Step) (next : State) → next ≡ refused_step state s → Holds gens h state → Holds gens h next
  next_holds h state s next same holds = subst (Holds gens h) (sym same) (refused_holds gens h state s holds)

  holds_along : (h : History) (state : State) (attempts : List Attempt) → IsChain gens state attempts → Holds gens h state → Holds gens (h ++ answered_history attempts) (left_behind state attempts)
  holds_along h state [] chain holds = subst (λ (x : History). Holds gens x state) (sym (append-nil h)) holds
  holds_along h state ((s, Err memory, next) ∷ attempts) chain holds = holds_along h next attempts chain.1 (next_holds h state s next chain.0 holds)
  holds_along h state ((s, Ok answer, next) ∷ attempts) chain holds =
      subst (λ (x : History). Holds gens x (left_behind next attempts)) (append_assoc h ((s, answer) ∷ []) (answered_history attempts))
      (holds_along (h ++ (s, answer) ∷ []) next attempts chain.1 (answered_holds h state s answer next chain.0 holds))

  holds_all : Laws → (attempts : List Attempt) → IsChain gens (first gens) attempts → Holds gens (answered_history attempts) (left_behind (first gens) attempts)
  holds_all laws attempts chain = holds_along [] (first gens) attempts chain (first_holds gens laws)

  right_along : (h : History) (state : State) (attempts : List Attempt) → IsChain gens state attempts → Holds gens h state → AnswersRightly gens h (answered_history attempts)
  right_along h state [] chain holds = tt
  right_along h state ((s, Err memory, next) ∷ attempts) chain holds = right_along h next attempts chain.1 (next_holds h state s next chain.0 holds)
  right_along h state ((s, Ok answer, next) ∷ attempts) chain holds = (
    subst (λ (after : State × Answer). IsRightAnswer gens h s after.1) (sym chain.0) (right_answer gens h state s holds),
    right_along (h ++ (s, answer) ∷ []) next attempts chain.1 (answered_holds h state s answer next chain.0 holds),
  )

  within_along : (state : State) (attempts : List Attempt) → IsChain gens state attempts → AllRenewWithin gens state → AllRenewWithin gens (left_behind state attempts)
  within_along state [] chain all = all
  within_along state ((s, Err memory, next) ∷ attempts) chain all = within_along next attempts chain.1 (subst (AllRenewWithin gens) (sym chain.0) (after_refusal gens (renewing_moves gens) state all s))
  within_along state ((s, Ok answer, next) ∷ attempts) chain all =
      within_along next attempts chain.1 (subst (λ (after : State × Answer). AllRenewWithin gens after.0) (sym chain.0) (after_step gens (renewing_moves gens) state all s))

pub every_chain : Laws → EachGetsItsOwn → NothingIsLost → OutcomesAreSaid → CancelledChangesNothing → EveryChainDelivers
every_chain laws own lossless says late = record {
  delivers = λ gens attempts chain. delivers own lossless gens (answered_history attempts) (left_behind (first gens) attempts) (holds_all gens laws attempts chain);
  rightly = λ gens attempts chain. right_along gens [] (first gens) attempts chain (first_holds gens laws);
  report = λ gens attempts chain. reported gens (answered_history attempts) (left_behind (first gens) attempts) (holds_all gens laws attempts chain);
  processes = λ gens attempts chain. processes own lossless late gens (answered_history attempts) (left_behind (first gens) attempts) (holds_all gens laws attempts chain);
  keeps = λ gens attempts chain. keeps says gens (answered_history attempts) (left_behind (first gens) attempts) (holds_all gens laws attempts chain);
  within = λ gens attempts chain. within_along gens (first gens) attempts chain (first_have gens (RenewsWithin gens) (new_within gens));
  held = λ gens state attempts chain t p pipe waits at held. next_is_held gens state attempts chain t p pipe waits at held;
}
