-- What is true after any calls.
use Rattle.std.proofs.Common.{◌≡◌, ◌∙◌, refl, sym, ap, List, [], ◌∷◌, ◌++◌, map, Option, Some, None, append-nil, append_assoc}
use Rattle.std.specs.List.{filter_map}
use Rattle.std.specs.Option.{option_to_list}
use Rattle.std.proofs.lemmas.List.Elements.{filter_map-append}
use Rattle.gate_record.specs.declared.ids.Stamp.{Stamp}
use Rattle.gate_record.specs.declared.transit.PipelineItem.TheVariants as item
use Rattle.gate_config.specs.declared.config.Config.{Config}
use Rattle.gate_items.specs.History.{after}
use Rattle.gate_items.specs.declared.action.Action.{Action}
use Rattle.gate_items.specs.Machine.{apply}
use Rattle.gate_items.specs.Machine as items
use Rattle.gate_pipeline.specs.declared.pass.Pass.{Pass}
use Rattle.gate_pipeline.specs.declared.pass.Taking.{Taking}
use Rattle.gate_pipeline.specs.declared.which.Held.{Held}
use Rattle.gate_pipeline.specs.declared.which.Held.TheVariants as held
use Rattle.gate_pipeline.specs.declared.which.Taken.{Taken}
use Rattle.gate_pipeline.specs.declared.which.Taken.TheVariants as taken
use Rattle.gate_pipeline.specs.Histories.{AppliedOnce, Call, FoundEmpty, PhasesFollow, Refused, Took, action_of, after_call, after_calls, processed_from, stamp_of, taking_of, takings, takings_of}
use Rattle.gate_pipeline.specs.Passes.{after_taking, pass_after}
use Rattle.gate_pipeline.specs.States.{State, first_state, found_empty, held_as, taken_in, takes, to_process, with_processed}

-- ---- phases

pass_of_processed : (config : Config) (waiting : Option Held) (state : State) → (with_processed config waiting state).0.pass ≡ state.pass
pass_of_processed config None state = refl
pass_of_processed config (Some (held.Action action)) state = refl
pass_of_processed config (Some (held.Event stamped)) state = refl

pass_of_taken : (given : Taken) (state : State) → (taken_in given state).pass ≡ pass_after state.pass (taking_of given)
pass_of_taken (taken.Manage manage) state = refl
pass_of_taken (taken.Result result) state = refl
pass_of_taken (taken.Trigger (item.Event stamped)) state = refl
pass_of_taken (taken.Trigger item.End) state = refl
pass_of_taken taken.Again state = refl

pass_of_call : (state : State) (call : Call) → (after_call state call).pass ≡ pass_after state.pass (takings_of call)
pass_of_call state (Took config given) = pass_of_processed config (to_process state.held given) (taken_in given state) ∙ pass_of_taken given state
pass_of_call state (Refused given) = pass_of_taken given state
pass_of_call state FoundEmpty = refl

pass_after-append : (pass : Pass) (xs ys : List Taking) → pass_after pass (xs ++ ys) ≡ pass_after (pass_after pass xs) ys
pass_after-append pass [] ys = refl
pass_after-append pass (x ∷ xs) ys = pass_after-append (after_taking pass x) xs ys

pass_of_calls : (state : State) (calls : List Call) → (after_calls state calls).pass ≡ pass_after state.pass (takings calls)
pass_of_calls state [] = refl
pass_of_calls state (call ∷ calls) =
    pass_of_calls (after_call state call) calls
    ∙ ap (λ (pass : Pass). pass_after pass (takings calls)) (pass_of_call state call)
    ∙ sym (pass_after-append state.pass (takings_of call) (takings calls))

pub phases_follow : PhasesFollow
phases_follow config t p calls = pass_of_calls (first_state config t p) calls

-- ---- items

after-append : (s : items.State) (xs ys : List Action) → after s (xs ++ ys) ≡ after (after s xs) ys
after-append s [] ys = refl
after-append s (x ∷ xs) ys = after-append (apply s x).0 xs ys

map-option : {X Y : Type 0} (f : X → Y) (o : Option X) (xs : List X) → map f (option_to_list o ++ xs) ≡ map f (option_to_list o) ++ map f xs
map-option f None xs = refl
map-option f (Some x) xs = refl

items_of_processed : (config : Config) (waiting : Option Held) (state : State) →
    (with_processed config waiting state).0.items ≡ after state.items (map action_of (option_to_list (with_processed config waiting state).1))
items_of_processed config None state = refl
items_of_processed config (Some (held.Action action)) state = refl
items_of_processed config (Some (held.Event stamped)) state = refl

-- what taking in leaves as it is
pub record Stays (given : Taken) (state : State) : Type 0 where
  pub items : (taken_in given state).items ≡ state.items
  pub done : (taken_in given state).done ≡ state.done
  pub tenant : (taken_in given state).tenant ≡ state.tenant
  pub pipeline : (taken_in given state).pipeline ≡ state.pipeline

pub stays : (given : Taken) (state : State) → Stays given state
stays (taken.Manage manage) state = record { items = refl; done = refl; tenant = refl; pipeline = refl }
stays (taken.Result result) state = record { items = refl; done = refl; tenant = refl; pipeline = refl }
stays (taken.Trigger (item.Event stamped)) state = record { items = refl; done = refl; tenant = refl; pipeline = refl }
stays (taken.Trigger item.End) state = record { items = refl; done = refl; tenant = refl; pipeline = refl }
stays taken.Again state = record { items = refl; done = refl; tenant = refl; pipeline = refl }

items_of_took : (config : Config) (state : State) (given : Taken) → (takes config state given).0.items ≡ after state.items (map action_of (option_to_list (takes config state given).1))
items_of_took config state given =
    items_of_processed config (to_process state.held given) (taken_in given state)
    ∙ ap (λ (s : items.State). after s (map action_of (option_to_list (takes config state given).1))) (stays given state).items

items_of_calls : (state : State) (calls : List Call) → (after_calls state calls).items ≡ after state.items (map action_of (processed_from state calls))
items_of_calls state [] = refl
items_of_calls state (Took config given ∷ calls) =
    let next = takes config state given in
    items_of_calls next.0 calls
    ∙ ap (λ (s : items.State). after s (map action_of (processed_from next.0 calls))) (items_of_took config state given)
    ∙ sym (after-append state.items (map action_of (option_to_list next.1)) (map action_of (processed_from next.0 calls)))
    ∙ ap (after state.items) (sym (map-option action_of next.1 (processed_from next.0 calls)))
items_of_calls state (Refused given ∷ calls) =
    let next = held_as (to_process state.held given) (taken_in given state) in
    items_of_calls next calls
    ∙ ap (λ (s : items.State). after s (map action_of (processed_from next calls))) (stays given state).items
items_of_calls state (FoundEmpty ∷ calls) = items_of_calls (found_empty state) calls

-- ---- what is done

done_of_processed : (config : Config) (waiting : Option Held) (state : State) →
    (with_processed config waiting state).0.done ≡ state.done ++ filter_map stamp_of (option_to_list (with_processed config waiting state).1)
done_of_processed config None state = sym (append-nil state.done)
done_of_processed config (Some (held.Action action)) state = sym (append-nil state.done)
done_of_processed config (Some (held.Event stamped)) state = refl

done_of_took : (config : Config) (state : State) (given : Taken) → (takes config state given).0.done ≡ state.done ++ filter_map stamp_of (option_to_list (takes config state given).1)
done_of_took config state given =
    done_of_processed config (to_process state.held given) (taken_in given state)
    ∙ ap (λ (stamps : List Stamp). stamps ++ filter_map stamp_of (option_to_list (takes config state given).1)) (stays given state).done

done_of_calls : (state : State) (calls : List Call) → (after_calls state calls).done ≡ state.done ++ filter_map stamp_of (processed_from state calls)
done_of_calls state [] = sym (append-nil state.done)
done_of_calls state (Took config given ∷ calls) =
    let next = takes config state given in
    let first = filter_map stamp_of (option_to_list next.1) in
    let others = filter_map stamp_of (processed_from next.0 calls) in
    done_of_calls next.0 calls
    ∙ ap (λ (stamps : List Stamp). stamps ++ others) (done_of_took config state given)
    ∙ append_assoc state.done first others
    ∙ ap (λ (stamps : List Stamp). state.done ++ stamps) (sym (filter_map-append stamp_of (option_to_list next.1) (processed_from next.0 calls)))
done_of_calls state (Refused given ∷ calls) =
    let next = held_as (to_process state.held given) (taken_in given state) in
    done_of_calls next calls
    ∙ ap (λ (stamps : List Stamp). stamps ++ filter_map stamp_of (processed_from next calls)) (stays given state).done
done_of_calls state (FoundEmpty ∷ calls) = done_of_calls (found_empty state) calls

pub applied_once : AppliedOnce
applied_once = record {
  items = λ config t p calls. items_of_calls (first_state config t p) calls;
  done = λ config t p calls. done_of_calls (first_state config t p) calls;
}
