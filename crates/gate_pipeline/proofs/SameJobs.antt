-- What is processed depends on a configuration only by the jobs of projects.
use Rattle.std.proofs.Common.{◌≡◌, ◌∙◌, refl, sym, ap, ℕ, List, [], ◌∷◌, ◌++◌, Option, Some, None}
use Rattle.gate_config.specs.declared.config.Config.{Config}
use Rattle.gate_config.specs.Lookups.{jobs_of}
use Rattle.gate_items.specs.declared.action.Action.TheVariants as action
use Rattle.gate_pipeline.specs.declared.which.Held.{Held}
use Rattle.gate_pipeline.specs.declared.which.Held.TheVariants as held
use Rattle.gate_pipeline.specs.Histories.{SameJobsSameActions}
use Rattle.gate_pipeline.specs.States.{State, applied, held_as, taken_in, to_process, with_processed}
use Rattle.gate_pipeline.specs.Triggers.{key_of, patchset_of, project_of}
use Rattle.gate_pipeline.proofs.Calls.{stays}

module _ (a b : Config) (t p : ℕ) (same : (project : List ℕ) → jobs_of a t p project ≡ jobs_of b t p project) where
  of_waiting : (waiting : Option Held) (state : State) → state.tenant ≡ t → state.pipeline ≡ p → with_processed a waiting state ≡ with_processed b waiting state
  of_waiting None state of_t of_p = refl
  of_waiting (Some (held.Action action)) state of_t of_p = refl
  of_waiting (Some (held.Event s)) state of_t of_p =
      let key = key_of s.stamp.conn s.event s.event.change in
      let jobs : jobs_of a state.tenant state.pipeline (project_of s.event) ≡ jobs_of b state.tenant state.pipeline (project_of s.event) =
      ap (λ i. jobs_of a i state.pipeline (project_of s.event)) of_t ∙ ap (λ i. jobs_of a t i (project_of s.event)) of_p ∙ same (project_of s.event)
      ∙ sym (ap (λ i. jobs_of b i state.pipeline (project_of s.event)) of_t ∙ ap (λ i. jobs_of b t i (project_of s.event)) of_p) in
      ap (λ names. (let done = applied (Some s.stamp) (action.Trigger key (patchset_of s.event key) names) (record (held_as None state) { done = state.done ++ s.stamp ∷ [] }) in (done.0, Some done.1))) jobs

pub same_jobs_same_actions : SameJobsSameActions
same_jobs_same_actions a b state given same =
    of_waiting a b state.tenant state.pipeline same (to_process state.held given) (taken_in given state) (stays given state).tenant (stays given state).pipeline
