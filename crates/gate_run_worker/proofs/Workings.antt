-- What the steps of a pipeline's worker keep.
use Rattle.std.proofs.Common.{◌≡◌, ◌∙◌, refl, sym, ap, subst, ℕ, List, [], ◌∷◌, ◌++◌, true, Some, None, inl, inr, append-nil, append_assoc}
use Rattle.std.specs.Option.{option_to_list}
use Rattle.std.proofs.lemmas.List.{map-append}
use Rattle.gate_record.specs.declared.transit.PipelineItem.{PipelineItem}
use Rattle.gate_config.specs.declared.config.Config.{Config}
use Rattle.gate_items.specs.declared.action.JobResult.{JobResult}
use Rattle.gate_items.specs.declared.action.Manage.{Manage}
use Rattle.gate_pipeline.specs.declared.which.Taken.{Taken}
use Rattle.gate_pipeline.specs.Histories.{Happens, beginning, begins, manage_in, passed, refused, result_in, took, trigger_in, with_taken as with_given}
use Rattle.gate_pipeline.specs.States.{MayBeRefused, Processed, State, asked, first_state, found_empty, held_as, is_taking, next_of, taken_in, takes, to_process}
use Rattle.gate_queue.specs.declared.tagged.Tagged.{Tagged}
use Rattle.gate_queue.specs.Seats.{TakerSeat, with_taken}
use Rattle.gate_run_worker.specs.declared.worker.RunningWorker.{RunningWorker}
use Rattle.gate_run_worker.specs.Workers.{TookMore, HasWorked}
use Rattle.gate_run_worker.specs.Inner.Workers.{IsWorking, MayProcess}

module _ {T : Type 0} where
  pub took_none : (before now : TakerSeat T) → now ≡ before → TookMore before [] now
  took_none before now same = record { queue = ap (λ (h : TakerSeat T). h.queue) same; taken = []; are = refl; behind = ap (λ (h : TakerSeat T). h.taken) same ∙ sym (append-nil before.taken) }

  pub took_one : (before now : TakerSeat T) (x : Tagged T) → now ≡ with_taken before x → TookMore before (x.value ∷ []) now
  took_one before now x more = record { queue = ap (λ (h : TakerSeat T). h.queue) more; taken = x ∷ []; are = refl; behind = ap (λ (h : TakerSeat T). h.taken) more }

  pub took_both : {before mid now : TakerSeat T} {first next : List T} → TookMore before first mid → TookMore mid next now → TookMore before (first ++ next) now
  took_both {before} {mid} {now} {first} {next} a b = record {
    queue = b.queue ∙ a.queue;
    taken = a.taken ++ b.taken;
    are = map-append (λ (x : Tagged T). x.value) a.taken b.taken ∙ (λ i. a.are i ++ b.are i);
    behind = b.behind ∙ ap (λ xs. xs ++ b.taken) a.behind ∙ append_assoc before.taken a.taken b.taken;
  }

  pub took_same : {before now now' : TakerSeat T} {items items' : List T} → items ≡ items' → now' ≡ now → TookMore before items now → TookMore before items' now'
  took_same {before} {now} {now'} {items} {items'} e same more = subst (λ xs. TookMore before xs now') e (subst (λ h. TookMore before items h) (sym same) more)

module _ {config : Config} {t p : ℕ} {trigger : TakerSeat PipelineItem} {manage : TakerSeat Manage} {result : TakerSeat JobResult} {w : RunningWorker} (w' : RunningWorker) where
  -- a queue was found empty
  pub found_nothing : IsWorking config t p trigger manage result None w → is_taking (next_of w.state) ≡ true → w'.state ≡ found_empty w.state → w'.head ≡ w.head → w'.management ≡ w.management → w'.results ≡ w.results →
      IsWorking config t p trigger manage result None w'
  found_nothing was taking state head management results = record {
    past = record was.past { state = found_empty was.past.state };
    happens = passed was.happens (ap (λ (s : State). is_taking (next_of s)) was.now ∙ taking);
    now = ap found_empty was.now ∙ sym state;
    triggers = took_same refl head was.triggers;
    management = took_same refl management was.management;
    results = took_same refl results was.results;
  }

  -- this was taken
  pub took_given : (given : Taken) → w'.state ≡ w.state → TookMore w.head (trigger_in given) w'.head → TookMore w.management (manage_in given) w'.management → TookMore w.results (result_in given) w'.results →
      IsWorking config t p trigger manage result None w → IsWorking config t p trigger manage result (Some given) w'
  took_given given state head management results was = record {
    past = was.past;
    happens = was.happens;
    now = was.now ∙ sym state;
    triggers = took_same (ap (λ xs. xs ++ trigger_in given) (append-nil was.past.triggers)) refl (took_both was.triggers head);
    management = took_same (ap (λ xs. xs ++ manage_in given) (append-nil was.past.management)) refl (took_both was.management management);
    results = took_same (ap (λ xs. xs ++ result_in given) (append-nil was.past.results)) refl (took_both was.results results);
  }

  module _ (given : Taken) (was : IsWorking config t p trigger manage result (Some given) w) (head : w'.head ≡ w.head) (management : w'.management ≡ w.management) (results : w'.results ≡ w.results) where
    after_it : (state : State) (processed : List Processed) → Happens config t p (with_given given state processed was.past) → state ≡ w'.state → IsWorking config t p trigger manage result None w'
    after_it state processed happens now = record {
      past = with_given given state processed was.past;
      happens = happens;
      now = now;
      triggers = took_same (sym (append-nil (was.past.triggers ++ trigger_in given))) head was.triggers;
      management = took_same (sym (append-nil (was.past.management ++ manage_in given))) management was.management;
      results = took_same (sym (append-nil (was.past.results ++ result_in given))) results was.results;
    }

    -- and then it was handed in
    pub handed_in : next_of w.state ≡ asked given → MayProcess config w.state given w'.state → IsWorking config t p trigger manage result None w'
    handed_in wanted went = by went
      where
        wants : next_of was.past.state ≡ asked given
        wants = ap next_of was.now ∙ wanted

        by : MayProcess config w.state given w'.state → IsWorking config t p trigger manage result None w'
        by (inl done) =
            after_it (takes config was.past.state given).0 (was.past.processed ++ option_to_list (takes config was.past.state given).1) (took given was.happens wants)
            (ap (λ (s : State). (takes config s given).0) was.now ∙ sym done)
        by (inr (kept, may)) =
            after_it (held_as (to_process was.past.state.held given) (taken_in given was.past.state)) was.past.processed
            (refused given was.happens wants (subst (λ (s : State). MayBeRefused s.items.manager (to_process s.held given)) (sym was.now) may))
            (ap (λ (s : State). held_as (to_process s.held given) (taken_in given s)) was.now ∙ sym kept)

pub working_begins : (config : Config) (t p : ℕ) (w : RunningWorker) → w.state ≡ first_state config t p → IsWorking config t p w.head w.management w.results None w
working_begins config t p w state = record {
  past = beginning config t p;
  happens = begins;
  now = sym state;
  triggers = took_none w.head w.head refl;
  management = took_none w.management w.management refl;
  results = took_none w.results w.results refl;
}

pub worker_ends : {config : Config} {t p : ℕ} {trigger : TakerSeat PipelineItem} {manage : TakerSeat Manage} {result : TakerSeat JobResult} {w : RunningWorker} (trigger' : TakerSeat PipelineItem) (manage' : TakerSeat Manage) (result' : TakerSeat JobResult) (state : State) →
    trigger' ≡ w.head → manage' ≡ w.management → result' ≡ w.results → state ≡ w.state → IsWorking config t p trigger manage result None w → HasWorked config t p trigger trigger' manage manage' result result' state
worker_ends trigger' manage' result' state head management results same was = record {
  past = was.past;
  happens = was.happens;
  now = was.now ∙ sym same;
  triggers = took_same (append-nil was.past.triggers) head was.triggers;
  management = took_same (append-nil was.past.management) management was.management;
  results = took_same (append-nil was.past.results) results was.results;
}
