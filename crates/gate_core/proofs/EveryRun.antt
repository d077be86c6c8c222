-- What holds of every list of steps.
use Rattle.std.proofs.Common.{sym, subst, List, [], ◌∷◌, ◌++◌, append-nil, append_assoc}
use Rattle.gate_config.specs.declared.generations.Generations.{Generations}
use Rattle.gate_core.proofs.LowerLaws.{Laws}
use Rattle.gate_items.specs.History.{CancelledChangesNothing}
use Rattle.gate_items.specs.Outcomes.{OutcomesAreSaid}
use Rattle.gate_tenant.specs.Histories.{EachGetsItsOwn, NothingIsLost}
use Rattle.gate_core.specs.declared.step.Step.{Step}
use Rattle.gate_core.specs.History.{History}
use Rattle.gate_core.specs.Promises.{AnswersRightly, EveryRunDelivers}
use Rattle.gate_core.specs.States.{State}
use Rattle.gate_core.specs.Steps.{first, left_by, run_from, step_of}
use Rattle.gate_core.proofs.AllSteps.{holds_on}
use Rattle.gate_core.specs.Worlds.{AllRenewWithin, RenewsWithin}
use Rattle.gate_core.proofs.Beginnings.{first_have, first_holds}
use Rattle.gate_core.proofs.Moving.{after_step}
use Rattle.gate_core.proofs.Outcomes.{delivers}
use Rattle.gate_core.proofs.Processing.{keeps, processes}
use Rattle.gate_core.proofs.Renewing.{new_within, renewing_moves}
use Rattle.gate_core.proofs.Reported.{reported}
use Rattle.gate_core.proofs.RightAnswers.{right_answer}
use Rattle.gate_core.proofs.Streams.{Holds}

holds_all : (gens : Generations) (steps : List Step) (h : History) (state : State) → Holds gens h state → Holds gens (h ++ run_from gens state steps) (left_by gens state steps)
holds_all gens [] h state holds = subst (λ (x : History). Holds gens x state) (sym (append-nil h)) holds
holds_all gens (s ∷ steps) h state holds =
    let next = step_of gens state s in
    subst (λ (x : History). Holds gens x (left_by gens next.0 steps)) (append_assoc h ((s, next.1) ∷ []) (run_from gens next.0 steps))
    (holds_all gens steps (h ++ (s, next.1) ∷ []) next.0 (holds_on gens h state s holds))

answers_rightly : (gens : Generations) (steps : List Step) (h : History) (state : State) → Holds gens h state → AnswersRightly gens h (run_from gens state steps)
answers_rightly gens [] h state holds = tt
answers_rightly gens (s ∷ steps) h state holds =
    (right_answer gens h state s holds, answers_rightly gens steps (h ++ (s, (step_of gens state s).1) ∷ []) (step_of gens state s).0 (holds_on gens h state s holds))

all_within : (gens : Generations) (steps : List Step) (state : State) → AllRenewWithin gens state → AllRenewWithin gens (left_by gens state steps)
all_within gens [] state all = all
all_within gens (s ∷ steps) state all = all_within gens steps (step_of gens state s).0 (after_step gens (renewing_moves gens) state all s)

pub every_run : Laws → EachGetsItsOwn → NothingIsLost → OutcomesAreSaid → CancelledChangesNothing → EveryRunDelivers
every_run laws own lossless says late = record {
  delivers = λ gens steps.
      delivers own lossless gens (run_from gens (first gens) steps) (left_by gens (first gens) steps) (holds_all gens steps [] (first gens) (first_holds gens laws));
  rightly = λ gens steps. answers_rightly gens steps [] (first gens) (first_holds gens laws);
  report = λ gens steps.
      reported gens (run_from gens (first gens) steps) (left_by gens (first gens) steps) (holds_all gens steps [] (first gens) (first_holds gens laws));
  processes = λ gens steps.
      processes own lossless late gens (run_from gens (first gens) steps) (left_by gens (first gens) steps) (holds_all gens steps [] (first gens) (first_holds gens laws));
  keeps = λ gens steps.
      keeps says gens (run_from gens (first gens) steps) (left_by gens (first gens) steps) (holds_all gens steps [] (first gens) (first_holds gens laws));
  within = λ gens steps. all_within gens steps (first gens) (first_have gens (RenewsWithin gens) (new_within gens));
}
