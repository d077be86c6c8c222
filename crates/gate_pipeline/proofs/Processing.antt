-- What was taken is processed or held, after any history of calls.
use Rattle.std.proofs.Common.{◌≡◌, ◌∙◌, refl, sym, ap, subst, ℕ, List, [], ◌∷◌, ◌++◌, Bool, true, false, map, Option, Some, None, append-nil}
use Rattle.std.specs.Prelude.{is_some, if◌then◌else◌}
use Rattle.std.specs.List.{cons_option, filter_map, list_any}
use Rattle.std.specs.Option.{option_to_list}
use Rattle.std.proofs.lemmas.List.{map-append}
use Rattle.std.proofs.lemmas.List.Elements.{filter_map-append}
use Rattle.std.proofs.lemmas.List.Folds.{list_any-append}
use Rattle.std.proofs.Math.Bool.{or-false, or-true}
use Rattle.gate_record.specs.declared.ids.Stamp.{Stamp}
use Rattle.gate_record.specs.declared.transit.Stamped.{Stamped}
use Rattle.gate_record.specs.declared.transit.PipelineItem.{PipelineItem}
use Rattle.gate_record.specs.declared.transit.PipelineItem.TheVariants as item
use Rattle.gate_config.specs.declared.config.Config.{Config}
use Rattle.gate_items.specs.declared.action.Action.{Action}
use Rattle.gate_items.specs.declared.action.Action.TheVariants as action
use Rattle.gate_items.specs.declared.action.JobResult.{JobResult}
use Rattle.gate_items.specs.declared.action.Manage.{Manage}
use Rattle.gate_items.specs.declared.action.Outcome.{Outcome}
use Rattle.gate_items.specs.History.{after, start}
use Rattle.gate_items.specs.Machine.{apply}
use Rattle.gate_items.specs.Machine as items
use Rattle.gate_items.specs.Outcomes.{run}
use Rattle.gate_pipeline.specs.declared.pass.Pass.{Pass}
use Rattle.gate_pipeline.specs.declared.pass.Phase.{Phase}
use Rattle.gate_pipeline.specs.declared.pass.Phase.TheVariants as phase
use Rattle.gate_pipeline.specs.declared.which.Held.{Held}
use Rattle.gate_pipeline.specs.declared.which.Held.TheVariants as held
use Rattle.gate_pipeline.specs.declared.which.Taken.{Taken}
use Rattle.gate_pipeline.specs.declared.which.Taken.TheVariants as taken
use Rattle.gate_pipeline.specs.declared.which.Which.{Which}
use Rattle.gate_pipeline.specs.declared.which.Which.TheVariants as which
use Rattle.gate_pipeline.specs.Histories.{AreProcessed, Happens, History, TakenIsProcessed, action_of, asking, beginning, begins, held_ended, held_items, held_managed, is_end, managing, outcome_of, passed, refused, resulting, stamp_in, stamp_of, took, triggering, with_taken}
use Rattle.gate_pipeline.specs.States.{MayBeRefused, Processed, State, asked, counted, found_empty, held_as, is_taking, manager_of, next_of, processed, queue_of, taken_in, to_process, with_processed}
use Rattle.gate_pipeline.specs.Triggers.{trigger_of}

-- ---- lists that grow

alone : {Y : Type 0} (o : Option Y) → cons_option o [] ≡ option_to_list o
alone None = refl
alone (Some y) = refl

picked : {X Y : Type 0} (f : X → Option Y) (xs : List X) (x : X) → filter_map f (xs ++ x ∷ []) ≡ filter_map f xs ++ option_to_list (f x)
picked f xs x = filter_map-append f xs (x ∷ []) ∙ ap (λ zs. filter_map f xs ++ zs) (alone (f x))

after_push : (s : items.State) (done : List Action) (a : Action) → after s (done ++ a ∷ []) ≡ (apply (after s done) a).0
after_push s [] a = refl
after_push s (x ∷ done) a = after_push (apply s x).0 done a

run_push : (s : items.State) (done : List Action) (a : Action) → run s (done ++ a ∷ []) ≡ run s done ++ (a, (apply (after s done) a).1) ∷ []
run_push s [] a = refl
run_push s (x ∷ done) a = ap (λ (rest : List (Action × Outcome)). (x, (apply s x).1) ∷ rest) (run_push (apply s x).0 done a)

-- ---- where something is to be taken from a queue nothing is held

by_held : (o : Option Held) (from : Which) → is_taking (if is_some o then which.Held else from) ≡ true → o ≡ None
by_held None from e = refl
by_held (Some waits) from e = absurd (cc)

by_finished : (finished : Bool) (o : Option Held) (from : Which) → is_taking (if finished then which.Finished else (if is_some o then which.Held else from)) ≡ true → o ≡ None
by_finished true o from e = absurd (cc)
by_finished false o from e = by_held o from e

free : (s : State) → is_taking (next_of s) ≡ true → s.held ≡ None
free s e = by_finished s.finished s.held (queue_of s.pass.phase) e

by_queue : (x : Phase) → queue_of x ≡ which.Held → ⊥
by_queue phase.Management e = absurd (cc)
by_queue phase.Result e = absurd (cc)
by_queue phase.Trigger e = absurd (cc)

-- ---- what holds of each history

-- a trigger is held as its event
abbrev IsNoTrigger : Option Held → Type 0
IsNoTrigger None = Unit {0}
IsNoTrigger (Some (held.Event e)) = Unit {0}
IsNoTrigger (Some (held.Action (action.Manage m))) = Unit {0}
IsNoTrigger (Some (held.Action (action.Result r))) = Unit {0}
IsNoTrigger (Some (held.Action (action.Trigger key patchset jobs))) = ⊥

record Holds (config : Config) (t p : ℕ) (h : History) : Type 0 where
  are : AreProcessed config t p h
  tenant : h.state.tenant ≡ t
  number : h.state.pipeline ≡ p
  plain : IsNoTrigger h.state.held

no_trigger : (a : Action) (outcome : Outcome) → IsNoTrigger (Some (held.Action a)) → triggering (None, a, outcome) ≡ None
no_trigger (action.Manage m) outcome plain = refl
no_trigger (action.Result r) outcome plain = refl
no_trigger (action.Trigger key patchset jobs) outcome plain = absurd plain

module _ (config : Config) (t p : ℕ) where
  abbrev from : items.State
  from = start (manager_of config t p) 0

  -- ---- one more that is processed

  module _ (h : History) (was : AreProcessed config t p h) (stamp : Option Stamp) (a : Action) where
    abbrev one : Processed
    one = (stamp, a, (apply h.state.items a).1)

    abbrev so_far : List Action
    so_far = map action_of h.processed

    more_actions : map action_of (h.processed ++ one ∷ []) ≡ so_far ++ a ∷ []
    more_actions = map-append action_of h.processed (one ∷ [])

    more_items : (apply h.state.items a).0 ≡ after from (map action_of (h.processed ++ one ∷ []))
    more_items = ap (λ (x : items.State). (apply x a).0) was.items ∙ sym (after_push from so_far a) ∙ ap (after from) (sym more_actions)

    more_outcomes : map outcome_of (h.processed ++ one ∷ []) ≡ run from (map action_of (h.processed ++ one ∷ []))
    more_outcomes =
        map-append outcome_of h.processed (one ∷ [])
        ∙ ap (λ (xs : List (Action × Outcome)). xs ++ (a, (apply h.state.items a).1) ∷ []) was.outcomes
        ∙ ap (λ (x : items.State). run from so_far ++ (a, (apply x a).1) ∷ []) was.items
        ∙ sym (run_push from so_far a)
        ∙ ap (run from) (sym more_actions)

    more_picked : {Y : Type 0} (f : Action → Option Y) → filter_map f (map action_of (h.processed ++ one ∷ [])) ≡ filter_map f so_far ++ option_to_list (f a)
    more_picked f = ap (filter_map f) more_actions ∙ picked f so_far a

  abbrev freed : Held → History → History
  freed waits h = record h { state = (processed config waits (held_as None h.state)).0; processed = h.processed ++ (processed config waits (held_as None h.state)).1 ∷ [] }

  -- a management event or a result that is held is processed
  frees_action : (h : History) (a : Action) → Holds config t p h → h.state.held ≡ Some (held.Action a) → Holds config t p (freed (held.Action a) h)
  frees_action h a holds waits =
      let was = holds.are in
      let x = one h was None a in
      let done = h.processed in
      record {
        are = record {
          front = was.front;
          triggers = was.triggers ∙ ap (λ (o : Option Held). was.front ++ held_items o) waits;
          stamps = was.stamps;
          asked_for = picked triggering done x
              ∙ ap (λ (o : Option (Option Stamp × Action)). filter_map triggering done ++ option_to_list o) (no_trigger a (apply h.state.items a).1 (subst IsNoTrigger waits holds.plain))
              ∙ append-nil (filter_map triggering done) ∙ was.asked_for;
          ends = was.ends;
          management = was.management ∙ ap (λ (o : Option Held). filter_map managing (map action_of done) ++ held_managed o) waits
              ∙ sym (more_picked h was None a managing) ∙ sym (append-nil (filter_map managing (map action_of (done ++ x ∷ []))));
          results = was.results ∙ ap (λ (o : Option Held). filter_map resulting (map action_of done) ++ held_ended o) waits
              ∙ sym (more_picked h was None a resulting) ∙ sym (append-nil (filter_map resulting (map action_of (done ++ x ∷ []))));
          done = was.done ∙ sym (picked stamp_of done x ∙ append-nil (filter_map stamp_of done));
          items = more_items h was None a;
          outcomes = more_outcomes h was None a;
        };
        tenant = holds.tenant;
        number = holds.number;
        plain = tt;
      }

  -- a trigger event that is held is processed
  frees_event : (h : History) (e : Stamped) → Holds config t p h → h.state.held ≡ Some (held.Event e) → Holds config t p (freed (held.Event e) h)
  frees_event h e holds waits =
      let was = holds.are in
      let a = trigger_of config h.state.tenant h.state.pipeline e.stamp e.event in
      let x = one h was (Some e.stamp) a in
      let done = h.processed in
      record {
        are = record {
          front = was.front ++ item.Event e ∷ [];
          triggers = was.triggers ∙ ap (λ (o : Option Held). was.front ++ held_items o) waits ∙ sym (append-nil (was.front ++ item.Event e ∷ []));
          stamps = picked stamp_in was.front (item.Event e) ∙ ap (λ (xs : List Stamp). xs ++ e.stamp ∷ []) was.stamps;
          asked_for = picked triggering done x ∙ ap (λ (xs : List (Option Stamp × Action)). xs ++ (Some e.stamp, a) ∷ []) was.asked_for
              ∙ (λ i. filter_map (asking config t p) was.front ++ (Some e.stamp, trigger_of config (holds.tenant i) (holds.number i) e.stamp e.event) ∷ [])
              ∙ sym (picked (asking config t p) was.front (item.Event e));
          ends = list_any-append is_end was.front (item.Event e ∷ []) ∙ or-false (list_any is_end was.front) ∙ was.ends;
          management = was.management ∙ ap (λ (o : Option Held). filter_map managing (map action_of done) ++ held_managed o) waits
              ∙ sym (more_picked h was (Some e.stamp) a managing) ∙ sym (append-nil (filter_map managing (map action_of (done ++ x ∷ []))));
          results = was.results ∙ ap (λ (o : Option Held). filter_map resulting (map action_of done) ++ held_ended o) waits
              ∙ sym (more_picked h was (Some e.stamp) a resulting) ∙ sym (append-nil (filter_map resulting (map action_of (done ++ x ∷ []))));
          done = ap (λ (xs : List Stamp). xs ++ e.stamp ∷ []) was.done ∙ sym (picked stamp_of done x);
          items = more_items h was (Some e.stamp) a;
          outcomes = more_outcomes h was (Some e.stamp) a;
        };
        tenant = holds.tenant;
        number = holds.number;
        plain = tt;
      }

  -- ---- what was taken is held

  module _ (h : History) (holds : Holds config t p h) where
    abbrev was : AreProcessed config t p h
    was = holds.are

    abbrev keeping : Taken → History
    keeping given = with_taken given (held_as (to_process h.state.held given) (taken_in given h.state)) h.processed h

    -- of what is held nothing is processed yet: all else but the lists of what was taken is as it was
    stays : {o : Option Held} {pass : Pass} {triggers : List PipelineItem} {management : List Manage} {results : List JobResult} →
        triggers ≡ was.front ++ held_items o → management ≡ filter_map managing (map action_of h.processed) ++ held_managed o →
        results ≡ filter_map resulting (map action_of h.processed) ++ held_ended o → IsNoTrigger o →
        Holds config t p (record h { state = record h.state { pass = pass; held = o }; triggers = triggers; management = management; results = results })
    stays of_triggers of_management of_results plain = record {
      are = record { front = was.front; triggers = of_triggers; stamps = was.stamps; asked_for = was.asked_for; ends = was.ends; management = of_management; results = of_results; done = was.done; items = was.items; outcomes = was.outcomes };
      tenant = holds.tenant;
      number = holds.number;
      plain = plain;
    }

    module _ (none : h.state.held ≡ None) where
      free_triggers : h.triggers ≡ was.front
      free_triggers = was.triggers ∙ ap (λ (o : Option Held). was.front ++ held_items o) none ∙ append-nil was.front

      free_management : h.management ≡ filter_map managing (map action_of h.processed)
      free_management = was.management ∙ ap (λ (o : Option Held). filter_map managing (map action_of h.processed) ++ held_managed o) none ∙ append-nil (filter_map managing (map action_of h.processed))

      free_results : h.results ≡ filter_map resulting (map action_of h.processed)
      free_results = was.results ∙ ap (λ (o : Option Held). filter_map resulting (map action_of h.processed) ++ held_ended o) none ∙ append-nil (filter_map resulting (map action_of h.processed))

      -- with these behind what was taken of triggers, management and results
      triggers_with : (more : List PipelineItem) → h.triggers ++ more ≡ was.front ++ more
      triggers_with more = ap (λ (xs : List PipelineItem). xs ++ more) free_triggers

      managed_with : (more : List Manage) → h.management ++ more ≡ filter_map managing (map action_of h.processed) ++ more
      managed_with more = ap (λ (xs : List Manage). xs ++ more) free_management

      ended_with : (more : List JobResult) → h.results ++ more ≡ filter_map resulting (map action_of h.processed) ++ more
      ended_with more = ap (λ (xs : List JobResult). xs ++ more) free_results

      keeps_manage : (m : Manage) → Holds config t p (keeping (taken.Manage m))
      keeps_manage m = stays {o = Some (held.Action (action.Manage m))} (triggers_with []) (managed_with (m ∷ [])) (ended_with []) tt

      keeps_result : (r : JobResult) → Holds config t p (keeping (taken.Result r))
      keeps_result r = stays {o = Some (held.Action (action.Result r))} (triggers_with []) (managed_with []) (ended_with (r ∷ [])) tt

      keeps_event : (e : Stamped) → Holds config t p (keeping (taken.Trigger (item.Event e)))
      keeps_event e = stays {o = Some (held.Event e)} (triggers_with (item.Event e ∷ [])) (managed_with []) (ended_with []) tt

      abbrev ending : History
      ending = with_taken (taken.Trigger item.End) (record (counted h.state) { finished = true }) h.processed h

      -- the end mark, of which nothing is processed
      end_is_processed : AreProcessed config t p ending
      end_is_processed = record {
        front = was.front ++ item.End ∷ [];
        triggers = triggers_with (item.End ∷ []) ∙ sym (append-nil (was.front ++ item.End ∷ []))
            ∙ ap (λ (o : Option Held). (was.front ++ item.End ∷ []) ++ held_items o) (sym none);
        stamps = picked stamp_in was.front item.End ∙ append-nil (filter_map stamp_in was.front) ∙ was.stamps;
        asked_for = was.asked_for ∙ sym (picked (asking config t p) was.front item.End ∙ append-nil (filter_map (asking config t p) was.front));
        ends = list_any-append is_end was.front (item.End ∷ []) ∙ or-true (list_any is_end was.front);
        management = append-nil h.management ∙ was.management;
        results = append-nil h.results ∙ was.results;
        done = was.done;
        items = was.items;
        outcomes = was.outcomes;
      }

      takes_end : Holds config t p ending
      takes_end = record { are = end_is_processed; tenant = holds.tenant; number = holds.number; plain = holds.plain }

    -- what is held is held again
    keeps_on : Holds config t p (keeping taken.Again)
    keeps_on = stays {o = h.state.held} (append-nil h.triggers ∙ was.triggers) (append-nil h.management ∙ was.management) (append-nil h.results ∙ was.results) holds.plain

    passes_on : Holds config t p (record h { state = found_empty h.state })
    passes_on = stays {o = h.state.held} was.triggers was.management was.results holds.plain

    -- ---- each call

    abbrev taking : Taken → (Option Held) → History
    taking given o = with_taken given (with_processed config o (taken_in given h.state)).0 (h.processed ++ option_to_list (with_processed config o (taken_in given h.state)).1) h

    again : (o : Option Held) → h.state.held ≡ o → is_some o ≡ true → Holds config t p (taking taken.Again h.state.held)
    again None e some = absurd (cc)
    again (Some (held.Action a)) e some = subst (λ (o : Option Held). Holds config t p (taking taken.Again o)) (sym e) (frees_action (keeping taken.Again) a keeps_on e)
    again (Some (held.Event s)) e some = subst (λ (o : Option Held). Holds config t p (taking taken.Again o)) (sym e) (frees_event (keeping taken.Again) s keeps_on e)

    by_some : (finished : Bool) (o : Option Held) (x : Phase) → (if finished then which.Finished else (if is_some o then which.Held else queue_of x)) ≡ which.Held → is_some o ≡ true
    by_some true o x e = absurd (cc)
    by_some false None x e = absurd (by_queue x e)
    by_some false (Some waits) x e = refl

    takes_on : (given : Taken) → next_of h.state ≡ asked given → Holds config t p (taking given (to_process h.state.held given))
    takes_on (taken.Manage m) asks = frees_action (keeping (taken.Manage m)) (action.Manage m) (keeps_manage (free h.state (ap is_taking asks)) m) refl
    takes_on (taken.Result r) asks = frees_action (keeping (taken.Result r)) (action.Result r) (keeps_result (free h.state (ap is_taking asks)) r) refl
    takes_on (taken.Trigger (item.Event e)) asks = frees_event (keeping (taken.Trigger (item.Event e))) e (keeps_event (free h.state (ap is_taking asks)) e) refl
    takes_on (taken.Trigger item.End) asks =
        subst (λ (done : List Processed). Holds config t p (with_taken (taken.Trigger item.End) (record (counted h.state) { finished = true }) done h)) (sym (append-nil h.processed))
        (takes_end (free h.state (ap is_taking asks)))
    takes_on taken.Again asks = again h.state.held refl (by_some h.state.finished h.state.held h.state.pass.phase asks)

    keeps : (given : Taken) → next_of h.state ≡ asked given → MayBeRefused h.state.items.manager (to_process h.state.held given) → Holds config t p (keeping given)
    keeps (taken.Manage m) asks may = keeps_manage (free h.state (ap is_taking asks)) m
    keeps (taken.Result r) asks may = keeps_result (free h.state (ap is_taking asks)) r
    keeps (taken.Trigger (item.Event e)) asks may = keeps_event (free h.state (ap is_taking asks)) e
    keeps (taken.Trigger item.End) asks may = absurd may
    keeps taken.Again asks may = keeps_on

  starts : Holds config t p (beginning config t p)
  starts = record {
    are = record { front = []; triggers = refl; stamps = refl; asked_for = refl; ends = refl; management = refl; results = refl; done = refl; items = refl; outcomes = refl };
    tenant = refl;
    number = refl;
    plain = tt;
  }

  holds : {h : History} → Happens config t p h → Holds config t p h
  holds begins = starts
  holds (took {h} given before asks) = takes_on h (holds before) given asks
  holds (refused {h} given before asks may) = keeps h (holds before) given asks may
  holds (passed {h} before asks) = passes_on h (holds before)

pub taken_is_processed : TakenIsProcessed
taken_is_processed config t p h happens = (holds config t p happens).are
