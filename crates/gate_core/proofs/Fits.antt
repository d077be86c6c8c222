-- What holds of a pipeline at work, by what it was given, what it has processed and what was posted to it.
use Rattle.std.proofs.Common.{◌≡◌, ◌∙◌, refl, sym, ap, subst, ℕ, List, [], ◌∷◌, ◌++◌, Bool, true, false, map, Option, Some, None, append_assoc, append-nil}
use Rattle.std.specs.List.{filter_map, list_any}
use Rattle.std.specs.Option.{option_to_list}
use Rattle.std.proofs.lemmas.List.{map-append}
use Rattle.std.proofs.lemmas.List.Folds.{list_any-append}
use Rattle.gate_record.specs.declared.ids.PipelineId.{PipelineId}
use Rattle.gate_record.specs.declared.ids.Stamp.{Stamp}
use Rattle.gate_record.specs.declared.transit.Stamped.{Stamped}
use Rattle.gate_record.specs.declared.transit.PipelineItem.{PipelineItem}
use Rattle.gate_record.specs.declared.transit.PipelineItem.TheVariants as pipeline
use Rattle.gate_config.specs.declared.config.Config.{Config}
use Rattle.gate_items.specs.declared.action.Action.{Action}
use Rattle.gate_items.specs.declared.action.Action.TheVariants as action
use Rattle.gate_items.specs.declared.action.JobResult.{JobResult}
use Rattle.gate_items.specs.declared.action.Manage.{Manage}
use Rattle.gate_items.specs.declared.action.Outcome.{Outcome}
use Rattle.gate_items.specs.History.{after}
use Rattle.gate_items.specs.Machine.{State as ItemsState, apply}
use Rattle.gate_items.specs.Outcomes.{run}
use Rattle.gate_pipeline.specs.declared.which.Held.{Held}
use Rattle.gate_pipeline.specs.declared.which.Held.TheVariants as held
use Rattle.gate_pipeline.specs.declared.which.Taken.TheVariants as taking
use Rattle.gate_pipeline.specs.Histories.{action_of, asking, held_ended, held_items, held_managed, is_end, managing, outcome_of, resulting, stamp_in, stamp_of, triggering}
use Rattle.gate_pipeline.specs.States.{Processed, State as WorkerState, counted, found_empty, held_as, processed}
use Rattle.gate_pipeline.specs.Triggers.{trigger_of}
use Rattle.gate_tenant.specs.Histories.{items_for}
use Rattle.gate_core.specs.declared.pipeline.Pipeline.{Pipeline}
use Rattle.gate_core.specs.Pipelines.{fresh_pipeline, took}
use Rattle.gate_core.specs.Promises.{no_items}
use Rattle.gate_delivery.proofs.Maps.{filter_map_push}
use Rattle.gate_core.proofs.Pushes.{or_false, or_true}

-- a trigger is held as its event
abbrev pub IsNoTrigger : Option Held → Type 0
IsNoTrigger None = Unit {0}
IsNoTrigger (Some (held.Event e)) = Unit {0}
IsNoTrigger (Some (held.Action (action.Manage m))) = Unit {0}
IsNoTrigger (Some (held.Action (action.Result r))) = Unit {0}
IsNoTrigger (Some (held.Action (action.Trigger key patchset jobs))) = ⊥

-- what waits for a pipeline: what is held is the first of it
abbrev pub waiting_items : Pipeline → List PipelineItem
waiting_items pipe = held_items pipe.worker.held ++ pipe.triggers

abbrev pub waiting_managed : Pipeline → List Manage
waiting_managed pipe = held_managed pipe.worker.held ++ pipe.management

abbrev pub waiting_ended : Pipeline → List JobResult
waiting_ended pipe = held_ended pipe.worker.held ++ pipe.results

-- what a pipeline processed of its triggers, and what waits for it, is what it was given; what it has processed is what it
-- took, and what waits of what was posted to it is the rest of that
pub record PipeFits (config : Config) (t p : ℕ) (given : List (PipelineId × PipelineItem)) (pipe : Pipeline) (ts : List Processed) (fin : Bool) (ms : List Manage) (rs : List JobResult) : Type 0 where
  pub taken : List PipelineItem
  pub parts : items_for p given ≡ taken ++ waiting_items pipe
  pub marked : list_any is_end taken ≡ pipe.worker.finished
  pub finishes : pipe.worker.finished ≡ fin
  pub tenant : pipe.worker.tenant ≡ t
  pub number : pipe.worker.pipeline ≡ p
  pub plain : IsNoTrigger pipe.worker.held
  pub stamps : filter_map stamp_in taken ≡ pipe.worker.done
  pub asks : filter_map triggering ts ≡ filter_map (asking config t p) taken
  pub does : pipe.worker.done ≡ filter_map stamp_of ts
  pub items : pipe.worker.items ≡ after (no_items config t p) (map action_of ts)
  pub outcome : map outcome_of ts ≡ run (no_items config t p) (map action_of ts)
  pub manages : filter_map managing (map action_of ts) ++ waiting_managed pipe ≡ ms
  pub ends : filter_map resulting (map action_of ts) ++ waiting_ended pipe ≡ rs

pub fits_new : (config : Config) (t p : ℕ) → PipeFits config t p [] (fresh_pipeline config t p) [] false [] []
fits_new config t p =
    record { taken = []; parts = refl; marked = refl; finishes = refl; tenant = refl; number = refl; plain = tt; stamps = refl; asks = refl; does = refl; items = refl; outcome = refl; manages = refl; ends = refl }

pub fits_same : {config : Config} {t p : ℕ} {given : List (PipelineId × PipelineItem)} {pipe : Pipeline} {ts ts' : List Processed} {fin fin' : Bool} {ms ms' : List Manage} {rs rs' : List JobResult} →
    ts ≡ ts' → fin ≡ fin' → ms ≡ ms' → rs ≡ rs' → PipeFits config t p given pipe ts fin ms rs → PipeFits config t p given pipe ts' fin' ms' rs'
fits_same {config} {t} {p} {given} {pipe} {ts} {ts'} {fin} {fin'} {ms} {ms'} {rs} {rs'} e f m r fits =
    subst (λ (x : List Processed). PipeFits config t p given pipe x fin' ms' rs') e
    (subst (λ (x : Bool). PipeFits config t p given pipe ts x ms' rs') f
    (subst (λ (x : List Manage). PipeFits config t p given pipe ts fin x rs') m
    (subst (λ (x : List JobResult). PipeFits config t p given pipe ts fin ms x) r fits)))

-- ---- one more that is processed

pub after_push : (s : ItemsState) (done : List Action) (a : Action) → after s (done ++ a ∷ []) ≡ (apply (after s done) a).0
after_push s [] a = refl
after_push s (x ∷ done) a = after_push (apply s x).0 done a

run_push : (s : ItemsState) (done : List Action) (a : Action) → run s (done ++ a ∷ []) ≡ run s done ++ (a, (apply (after s done) a).1) ∷ []
run_push s [] a = refl
run_push s (x ∷ done) a = ap (λ (rest : List (Action × Outcome)). (x, (apply s x).1) ∷ rest) (run_push (apply s x).0 done a)

module _ (config : Config) (t p : ℕ) (ts : List Processed) (s : ItemsState) (stamp : Option Stamp) (a : Action) where
  -- an action, with the outcome that it has
  abbrev pub one : Processed
  one = (stamp, a, (apply s a).1)

  abbrev start : ItemsState
  start = no_items config t p

  abbrev so_far : List Action
  so_far = map action_of ts

  items_more : s ≡ after start so_far → (apply s a).0 ≡ after start (map action_of (ts ++ one ∷ []))
  items_more e = ap (λ (x : ItemsState). (apply x a).0) e ∙ sym (after_push start so_far a) ∙ ap (after start) (sym (map-append action_of ts (one ∷ [])))

  outcome_more : s ≡ after start so_far → map outcome_of ts ≡ run start so_far → map outcome_of (ts ++ one ∷ []) ≡ run start (map action_of (ts ++ one ∷ []))
  outcome_more e f =
      map-append outcome_of ts (one ∷ [])
      ∙ ap (λ (xs : List (Action × Outcome)). xs ++ (a, (apply s a).1) ∷ []) f
      ∙ ap (λ (x : ItemsState). run start so_far ++ (a, (apply x a).1) ∷ []) e
      ∙ sym (run_push start so_far a)
      ∙ ap (run start) (sym (map-append action_of ts (one ∷ [])))

  picked_more : {Y : Type 0} (f : Action → Option Y) → filter_map f (map action_of (ts ++ one ∷ [])) ≡ filter_map f so_far ++ option_to_list (f a)
  picked_more f = ap (filter_map f) (map-append action_of ts (one ∷ [])) ∙ filter_map_push f so_far a

-- what a worker keeps when it only goes on in its pass, or holds something else
abbrev kept : WorkerState → (Bool × ℕ) × (ℕ × (List Stamp × ItemsState))
kept worker = ((worker.finished, worker.tenant), (worker.pipeline, (worker.done, worker.items)))

module _ {config : Config} {t p : ℕ} {given : List (PipelineId × PipelineItem)} {pipe : Pipeline} {ts : List Processed} {fin : Bool} {ms : List Manage} {rs : List JobResult} (fits : PipeFits config t p given pipe ts fin ms rs) where
  abbrev s : ItemsState
  s = pipe.worker.items

  abbrev asked_for : Stamped → Action
  asked_for e = trigger_of config pipe.worker.tenant pipe.worker.pipeline e.stamp e.event

  -- nothing is processed: what waits is split otherwise, or is more
  still : (more : List (PipelineId × PipelineItem)) (pipe' : Pipeline) (ms' : List Manage) (rs' : List JobResult) → kept pipe'.worker ≡ kept pipe.worker →
      items_for p more ≡ fits.taken ++ waiting_items pipe' → IsNoTrigger pipe'.worker.held →
      filter_map managing (map action_of ts) ++ waiting_managed pipe' ≡ ms' → filter_map resulting (map action_of ts) ++ waiting_ended pipe' ≡ rs' → PipeFits config t p more pipe' ts fin ms' rs'
  still more pipe' ms' rs' same parts plain manages ends = record {
    taken = fits.taken;
    parts = parts;
    marked = fits.marked ∙ sym (ap (λ k. k.0.0) same);
    finishes = ap (λ k. k.0.0) same ∙ fits.finishes;
    tenant = ap (λ k. k.0.1) same ∙ fits.tenant;
    number = ap (λ k. k.1.0) same ∙ fits.number;
    plain = plain;
    stamps = fits.stamps ∙ sym (ap (λ k. k.1.1.0) same);
    asks = fits.asks;
    does = ap (λ k. k.1.1.0) same ∙ fits.does;
    items = ap (λ k. k.1.1.1) same ∙ fits.items;
    outcome = fits.outcome;
    manages = manages;
    ends = ends;
  }

  -- ---- what is held is processed

  abbrev freed : Held → Pipeline
  freed waits = record pipe { worker = (processed config waits (held_as None pipe.worker)).0 }

  -- a management event or a result
  pub frees_action : (a : Action) → pipe.worker.held ≡ Some (held.Action a) → triggering (one config t p ts s None a) ≡ None →
      PipeFits config t p given (freed (held.Action a)) (ts ++ one config t p ts s None a ∷ []) fin ms rs
  frees_action a waits no_trigger =
      let x = one config t p ts s None a in
      record {
        taken = fits.taken;
        parts = fits.parts ∙ ap (λ (o : Option Held). fits.taken ++ (held_items o ++ pipe.triggers)) waits;
        marked = fits.marked;
        finishes = fits.finishes;
        tenant = fits.tenant;
        number = fits.number;
        plain = tt;
        stamps = fits.stamps;
        asks = filter_map_push triggering ts x ∙ ap (λ (o : Option (Option Stamp × Action)). filter_map triggering ts ++ option_to_list o) no_trigger ∙ append-nil (filter_map triggering ts) ∙ fits.asks;
        does = fits.does ∙ sym (filter_map_push stamp_of ts x ∙ append-nil (filter_map stamp_of ts));
        items = items_more config t p ts s None a fits.items;
        outcome = outcome_more config t p ts s None a fits.items fits.outcome;
        manages = ap (λ (xs : List Manage). xs ++ pipe.management) (picked_more config t p ts s None a managing)
            ∙ append_assoc (filter_map managing (map action_of ts)) (option_to_list (managing a)) pipe.management
            ∙ ap (λ (o : Option Held). filter_map managing (map action_of ts) ++ (held_managed o ++ pipe.management)) (sym waits) ∙ fits.manages;
        ends = ap (λ (xs : List JobResult). xs ++ pipe.results) (picked_more config t p ts s None a resulting)
            ∙ append_assoc (filter_map resulting (map action_of ts)) (option_to_list (resulting a)) pipe.results
            ∙ ap (λ (o : Option Held). filter_map resulting (map action_of ts) ++ (held_ended o ++ pipe.results)) (sym waits) ∙ fits.ends;
      }

  -- a trigger event
  pub frees_event : (e : Stamped) → pipe.worker.held ≡ Some (held.Event e) →
      PipeFits config t p given (freed (held.Event e)) (ts ++ one config t p ts s (Some e.stamp) (asked_for e) ∷ []) fin ms rs
  frees_event e waits =
      let a = asked_for e in
      let x = one config t p ts s (Some e.stamp) a in
      record {
        taken = fits.taken ++ pipeline.Event e ∷ [];
        parts = fits.parts ∙ ap (λ (o : Option Held). fits.taken ++ (held_items o ++ pipe.triggers)) waits ∙ sym (append_assoc fits.taken (pipeline.Event e ∷ []) pipe.triggers);
        marked = list_any-append is_end fits.taken (pipeline.Event e ∷ []) ∙ or_false (list_any is_end fits.taken) ∙ fits.marked;
        finishes = fits.finishes;
        tenant = fits.tenant;
        number = fits.number;
        plain = tt;
        stamps = filter_map_push stamp_in fits.taken (pipeline.Event e) ∙ ap (λ (xs : List Stamp). xs ++ e.stamp ∷ []) fits.stamps;
        asks = filter_map_push triggering ts x ∙ ap (λ (xs : List (Option Stamp × Action)). xs ++ (Some e.stamp, a) ∷ []) fits.asks
            ∙ (λ i. filter_map (asking config t p) fits.taken ++ (Some e.stamp, trigger_of config (fits.tenant i) (fits.number i) e.stamp e.event) ∷ [])
            ∙ sym (filter_map_push (asking config t p) fits.taken (pipeline.Event e));
        does = ap (λ (xs : List Stamp). xs ++ e.stamp ∷ []) fits.does ∙ sym (filter_map_push stamp_of ts x);
        items = items_more config t p ts s (Some e.stamp) a fits.items;
        outcome = outcome_more config t p ts s (Some e.stamp) a fits.items fits.outcome;
        manages = ap (λ (xs : List Manage). xs ++ pipe.management) (picked_more config t p ts s (Some e.stamp) a managing ∙ append-nil (filter_map managing (map action_of ts)))
            ∙ ap (λ (o : Option Held). filter_map managing (map action_of ts) ++ (held_managed o ++ pipe.management)) (sym waits) ∙ fits.manages;
        ends = ap (λ (xs : List JobResult). xs ++ pipe.results) (picked_more config t p ts s (Some e.stamp) a resulting ∙ append-nil (filter_map resulting (map action_of ts)))
            ∙ ap (λ (o : Option Held). filter_map resulting (map action_of ts) ++ (held_ended o ++ pipe.results)) (sym waits) ∙ fits.ends;
      }

  -- ---- what was taken is held

  abbrev free_parts : pipe.worker.held ≡ None → items_for p given ≡ fits.taken ++ pipe.triggers
  free_parts free = fits.parts ∙ ap (λ (o : Option Held). fits.taken ++ (held_items o ++ pipe.triggers)) free

  abbrev free_manages : pipe.worker.held ≡ None → filter_map managing (map action_of ts) ++ pipe.management ≡ ms
  free_manages free = ap (λ (o : Option Held). filter_map managing (map action_of ts) ++ (held_managed o ++ pipe.management)) (sym free) ∙ fits.manages

  abbrev free_ends : pipe.worker.held ≡ None → filter_map resulting (map action_of ts) ++ pipe.results ≡ rs
  free_ends free = ap (λ (o : Option Held). filter_map resulting (map action_of ts) ++ (held_ended o ++ pipe.results)) (sym free) ∙ fits.ends

  abbrev keeping : Held → Pipeline → Pipeline
  keeping waits left = record left { worker = held_as (Some waits) (counted pipe.worker) }

  -- a management event
  pub holds_managed : (m : Manage) (rest : List Manage) → pipe.management ≡ m ∷ rest → pipe.worker.held ≡ None →
      PipeFits config t p given (keeping (held.Action (action.Manage m)) (record pipe { management = rest })) ts fin ms rs
  holds_managed m rest front free =
      still given (keeping (held.Action (action.Manage m)) (record pipe { management = rest })) ms rs refl (free_parts free) tt
      (ap (λ (xs : List Manage). filter_map managing (map action_of ts) ++ xs) (sym front) ∙ free_manages free) (free_ends free)

  -- a result
  pub holds_ended : (r : JobResult) (rest : List JobResult) → pipe.results ≡ r ∷ rest → pipe.worker.held ≡ None →
      PipeFits config t p given (keeping (held.Action (action.Result r)) (record pipe { results = rest })) ts fin ms rs
  holds_ended r rest front free =
      still given (keeping (held.Action (action.Result r)) (record pipe { results = rest })) ms rs refl (free_parts free) tt
      (free_manages free) (ap (λ (xs : List JobResult). filter_map resulting (map action_of ts) ++ xs) (sym front) ∙ free_ends free)

  -- a trigger event
  pub holds_event : (e : Stamped) (rest : List PipelineItem) → pipe.triggers ≡ pipeline.Event e ∷ rest → pipe.worker.held ≡ None →
      PipeFits config t p given (keeping (held.Event e) (record pipe { triggers = rest })) ts fin ms rs
  holds_event e rest front free =
      still given (keeping (held.Event e) (record pipe { triggers = rest })) ms rs refl (free_parts free ∙ ap (λ (xs : List PipelineItem). fits.taken ++ xs) front) tt
      (free_manages free) (free_ends free)

  -- the end mark
  pub fits_end : (rest : List PipelineItem) → pipe.triggers ≡ pipeline.End ∷ rest → pipe.worker.held ≡ None →
      PipeFits config t p given (took config (taking.Trigger pipeline.End) (record pipe { triggers = rest })).0 ts true ms rs
  fits_end rest front free = record {
    taken = fits.taken ++ pipeline.End ∷ [];
    parts = free_parts free ∙ ap (λ (xs : List PipelineItem). fits.taken ++ xs) front ∙ sym (append_assoc fits.taken (pipeline.End ∷ []) rest)
        ∙ ap (λ (o : Option Held). (fits.taken ++ pipeline.End ∷ []) ++ (held_items o ++ rest)) (sym free);
    marked = list_any-append is_end fits.taken (pipeline.End ∷ []) ∙ or_true (list_any is_end fits.taken);
    finishes = refl;
    tenant = fits.tenant;
    number = fits.number;
    plain = fits.plain;
    stamps = filter_map_push stamp_in fits.taken pipeline.End ∙ append-nil (filter_map stamp_in fits.taken) ∙ fits.stamps;
    asks = fits.asks ∙ sym (filter_map_push (asking config t p) fits.taken pipeline.End ∙ append-nil (filter_map (asking config t p) fits.taken));
    does = fits.does;
    items = fits.items;
    outcome = fits.outcome;
    manages = fits.manages;
    ends = fits.ends;
  }

  -- an empty queue
  pub fits_passed : PipeFits config t p given (record pipe { worker = found_empty pipe.worker }) ts fin ms rs
  fits_passed = still given (record pipe { worker = found_empty pipe.worker }) ms rs refl fits.parts fits.plain fits.manages fits.ends

  -- posts
  pub fits_manage_post : (m : Manage) → PipeFits config t p given (record pipe { management = pipe.management ++ m ∷ [] }) ts fin (ms ++ m ∷ []) rs
  fits_manage_post m =
      still given (record pipe { management = pipe.management ++ m ∷ [] }) (ms ++ m ∷ []) rs refl fits.parts fits.plain
      (ap (λ (xs : List Manage). filter_map managing (map action_of ts) ++ xs) (sym (append_assoc (held_managed pipe.worker.held) pipe.management (m ∷ [])))
      ∙ sym (append_assoc (filter_map managing (map action_of ts)) (waiting_managed pipe) (m ∷ [])) ∙ ap (λ (xs : List Manage). xs ++ m ∷ []) fits.manages) fits.ends

  pub fits_result_post : (r : JobResult) → PipeFits config t p given (record pipe { results = pipe.results ++ r ∷ [] }) ts fin ms (rs ++ r ∷ [])
  fits_result_post r =
      still given (record pipe { results = pipe.results ++ r ∷ [] }) ms (rs ++ r ∷ []) refl fits.parts fits.plain fits.manages
      (ap (λ (xs : List JobResult). filter_map resulting (map action_of ts) ++ xs) (sym (append_assoc (held_ended pipe.worker.held) pipe.results (r ∷ [])))
      ∙ sym (append_assoc (filter_map resulting (map action_of ts)) (waiting_ended pipe) (r ∷ [])) ∙ ap (λ (xs : List JobResult). xs ++ r ∷ []) fits.ends)

  -- more is given, of which this is the pipeline's
  pub fits_given : (more : List (PipelineId × PipelineItem)) (items : List PipelineItem) → items_for p more ≡ items_for p given ++ items → PipeFits config t p more (record pipe { triggers = pipe.triggers ++ items }) ts fin ms rs
  fits_given more items e =
      still more (record pipe { triggers = pipe.triggers ++ items }) ms rs refl
      (e ∙ ap (λ (xs : List PipelineItem). xs ++ items) fits.parts ∙ append_assoc fits.taken (waiting_items pipe) items
      ∙ ap (λ (xs : List PipelineItem). fits.taken ++ xs) (append_assoc (held_items pipe.worker.held) pipe.triggers items)) fits.plain fits.manages fits.ends

  -- more is given to others
  pub fits_still : (more : List (PipelineId × PipelineItem)) → items_for p more ≡ items_for p given → PipeFits config t p more pipe ts fin ms rs
  fits_still more e = still more pipe ms rs refl (e ∙ fits.parts) fits.plain fits.manages fits.ends
