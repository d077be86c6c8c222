-- What holds means that what was processed is what was asked, and that the queue items are what came of it.
use Rattle.std.proofs.Common.{◌≡◌, ◌∙◌, refl, sym, ap, subst, ◌<◌, ℕ, List, [], ◌∷◌, ◌++◌, arith, false, length, map, true, zero, suc, Option, Some, None, append_assoc}
use Rattle.std.specs.Prelude.{is_some, option_and_then, option_map, slice_get}
use Rattle.std.specs.List.{filter, filter_map}
use Rattle.std.proofs.lemmas.List.{map-append}
use Rattle.gate_record.specs.declared.ids.ManagerKind.{ManagerKind}
use Rattle.gate_record.specs.declared.ids.Stamp.{Stamp}
use Rattle.gate_record.specs.declared.transit.PipelineItem.{PipelineItem}
use Rattle.gate_record.specs.declared.transit.PipelineItem.TheVariants as pipeline
use Rattle.gate_config.specs.declared.generations.Generations.{Generations}
use Rattle.gate_config.specs.Lookups.{pipelines_of, tenants_of}
use Rattle.gate_items.specs.declared.action.Action.{Action}
use Rattle.gate_items.specs.declared.action.Action.TheVariants as action
use Rattle.gate_items.specs.declared.action.Discard.TheVariants.{NotCurrent}
use Rattle.gate_items.specs.declared.action.Outcome.{Outcome}
use Rattle.gate_items.specs.declared.action.Outcome.TheVariants.{Discarded}
use Rattle.gate_items.specs.History.{CancelledChangesNothing, after, start}
use Rattle.gate_items.specs.Machine.{State as ItemsState, apply}
use Rattle.gate_items.specs.Outcomes.{OutcomesAreSaid, run, said}
use Rattle.gate_pipeline.specs.Histories.{action_of, asking, managing, outcome_of, resulting, stamp_in, stamp_of, triggering}
use Rattle.gate_pipeline.specs.States.{Processed, manager_of}
use Rattle.gate_tenant.specs.Histories.{EachGetsItsOwn, NothingIsLost, items_for}
use Rattle.gate_core.specs.declared.pipeline.Pipeline.{Pipeline}
use Rattle.gate_core.specs.History.{History, actions, asked_by, done, manage_posts, processed_management, outcomes, result_posts, processed_results, stamp_with, processed_triggers}
use Rattle.gate_core.specs.Late.{LateIsDiscarded, actions_in}
use Rattle.gate_record.specs.Prefixes.{IsPrefixOf}
use Rattle.gate_core.specs.Promises.{Keeps, Processes, no_items}
use Rattle.gate_core.specs.States.{State, TenantState, items_at}
use Rattle.gate_tenant.specs.Dispatching.{is_from}
use Rattle.gate_core.proofs.Fits.{after_push, waiting_ended, waiting_items, waiting_managed}
use Rattle.gate_core.proofs.Genuine.{IsAsked, IsGenuine, asked_are, genuine_forwarded}
use Rattle.gate_delivery.proofs.Readings.{AllOf, ItemIs, TriggerIs, all_at, all_from, all_front, chosen_are}
use Rattle.gate_delivery.proofs.Delivering.{head_same, tail_same}
use Rattle.gate_core.proofs.Outcomes.{all_chosen}
use Rattle.gate_core.proofs.Streams.{Holds, PipeHolds, TenantHolds, pipe_of}
use Rattle.gate_delivery.proofs.Maps.{the_same}

-- ---- outcomes, one after another

-- the outcome at a place is that behind all before it
outcome_at : (s : ItemsState) (done : List Action) (front : List (Action × Outcome)) (a : Action) (o : Outcome) (rest : List (Action × Outcome)) → run s done ≡ front ++ (a, o) ∷ rest → o ≡ (apply (after s (actions_in front)) a).1
outcome_at s [] [] a o rest e = absurd (cc)
outcome_at s [] (x ∷ front) a o rest e = absurd (cc)
outcome_at s (y ∷ done) [] a o rest e =
    let same : (y, (apply s y).1) ≡ (a, o) = head_same (y, (apply s y).1) (a, o) (run (apply s y).0 done) rest e in
    sym (ap (λ (x : Action × Outcome). x.1) same) ∙ ap (λ (x : Action). (apply s x).1) (ap (λ (x : Action × Outcome). x.0) same)
outcome_at s (y ∷ done) (x ∷ front) a o rest e =
    let same : (y, (apply s y).1) ≡ x = head_same (y, (apply s y).1) x (run (apply s y).0 done) (front ++ (a, o) ∷ rest) e in
    outcome_at (apply s y).0 done front a o rest (tail_same (y, (apply s y).1) x (run (apply s y).0 done) (front ++ (a, o) ∷ rest) e)
    ∙ ap (λ (b : Action). (apply (after (apply s b).0 (actions_in front)) a).1) (ap (λ (z : Action × Outcome). z.0) same)

discarded : CancelledChangesNothing → (manager : ManagerKind) (done : List Action) → LateIsDiscarded manager (run (start manager 0) done)
discarded late manager done before between behind ended outcome e cancelled =
    let s = start manager 0 in
    let parts : actions_in (before ++ between) ≡ actions_in before ++ actions_in between = map-append (λ (event : Action × Outcome). event.0) before between in
    let nothing : apply (after s (actions_in (before ++ between))) (action.Result ended) ≡ (after s (actions_in (before ++ between)), Discarded NotCurrent) =
    subst (λ (xs : List Action). apply (after s xs) (action.Result ended) ≡ (after s xs, Discarded NotCurrent)) (sym parts) (late manager 0 (actions_in before) (actions_in between) ended cancelled) in (
      outcome_at s done (before ++ between) (action.Result ended) outcome behind (e ∙ sym (append_assoc before between ((action.Result ended, outcome) ∷ behind)))
          ∙ ap (λ (after : ItemsState × Outcome). after.1) nothing,
      after_push s (actions_in (before ++ between)) (action.Result ended) ∙ ap (λ (after : ItemsState × Outcome). after.0) nothing,
    )

-- ---- a pipeline that is there

module _ (own : EachGetsItsOwn) (lossless : NothingIsLost) (gens : Generations) (h : History) (state : State) (holds : Holds gens h state) (t p : ℕ) (ten : TenantState) (pipe : Pipeline)
    (at : slice_get state.tenants t ≡ Some ten) (seat : slice_get ten.pipelines p ≡ Some pipe) where
  abbrev there : TenantHolds gens h state.connections t ten
  there = holds.tenants t ten at

  abbrev worked : PipeHolds gens.first h t p there.past.given pipe
  worked = there.pipes p pipe seat

  all_taken : AllOf (ItemIs (IsGenuine h)) (there.past.taken ++ ten.queue)
  all_taken =
      all_from (ItemIs (IsGenuine h)) (there.past.taken ++ ten.queue)
      (λ c. all_front (ItemIs (IsGenuine h)) (filter (is_from c) (there.past.taken ++ ten.queue)) _ (subst (AllOf (ItemIs (IsGenuine h))) (sym (there.ways c)) (genuine_forwarded holds.laws gens t h c (holds.conns c).stream)))

  all_matched : AllOf (ItemIs (IsGenuine h)) there.past.done
  all_matched =
      all_front (ItemIs (IsGenuine h)) there.past.done there.past.state.gathered
      (subst (AllOf (ItemIs (IsGenuine h))) (sym (lossless gens t there.past there.happens)) (all_front (ItemIs (IsGenuine h)) there.past.taken ten.queue all_taken))

  all_triggers : AllOf (TriggerIs (IsGenuine h)) worked.taken
  all_triggers =
      all_front (TriggerIs (IsGenuine h)) worked.taken (waiting_items pipe ++ items_for p there.past.state.outbox.items)
      (subst (AllOf (TriggerIs (IsGenuine h))) (sym (all_chosen own lossless gens h state holds t p 0 ten pipe at seat)) (chosen_are (IsGenuine h) gens t p there.past.done all_matched))

  pub asked_there : (i : ℕ) (stamp : Option Stamp) (a : Action) → slice_get (processed_triggers t p h) i ≡ Some (stamp, a) → asked_by gens.first t p h stamp ≡ Some a
  asked_there i stamp a e =
      all_at (IsAsked gens.first t p h) (filter_map (asking gens.first t p) worked.taken) i (stamp, a) (asked_are holds.laws gens.first t p h worked.taken all_triggers)
      (ap (λ (xs : List (Option Stamp × Action)). slice_get xs i) (sym worked.asks) ∙ e)

  asking_stamps : (items : List PipelineItem) → filter_map stamp_with (filter_map (asking gens.first t p) items) ≡ filter_map stamp_in items
  asking_stamps [] = refl
  asking_stamps (pipeline.Event s ∷ items) = ap (λ (stamps : List Stamp). s.stamp ∷ stamps) (asking_stamps items)
  asking_stamps (pipeline.End ∷ items) = asking_stamps items

  pub stamps_there : filter_map stamp_with (processed_triggers t p h) ≡ done t p h
  stamps_there = ap (filter_map stamp_with) worked.asks ∙ asking_stamps worked.taken ∙ worked.stamps ∙ worked.does

-- ---- every pipeline

-- what is asked of a pipeline's history, in any case
pub record Asked (gens : Generations) (h : History) (t p : ℕ) : Type 0 where
  pub triggers : (i : ℕ) (stamp : Option Stamp) (a : Action) → slice_get (processed_triggers t p h) i ≡ Some (stamp, a) → asked_by gens.first t p h stamp ≡ Some a
  pub stamps : filter_map stamp_with (processed_triggers t p h) ≡ done t p h
  pub management : IsPrefixOf (processed_management t p h) (manage_posts t p h)
  pub results : IsPrefixOf (processed_results t p h) (result_posts t p h)
  pub outcome : outcomes t p h ≡ run (no_items gens.first t p) (actions t p h)

module _ (own : EachGetsItsOwn) (lossless : NothingIsLost) (gens : Generations) (h : History) (state : State) (holds : Holds gens h state) (t p : ℕ) where
  nobody : is_some (pipe_of p (slice_get state.tenants t)) ≡ false → Asked gens h t p
  nobody none =
      let nothing = (holds.others t p none).0 in
      record {
        triggers = λ i stamp a e.
            let missing : None ≡ Some (stamp, a) = ap (λ (ts : List Processed). slice_get (filter_map triggering ts) i) (sym nothing) ∙ e in absurd (cc);
        stamps = ap (λ (ts : List Processed). filter_map stamp_with (filter_map triggering ts)) nothing ∙ sym (ap (λ (ts : List Processed). filter_map stamp_of ts) nothing);
        management = (manage_posts t p h, ap (λ (ts : List Processed). filter_map managing (map action_of ts) ++ manage_posts t p h) nothing);
        results = (result_posts t p h, ap (λ (ts : List Processed). filter_map resulting (map action_of ts) ++ result_posts t p h) nothing);
        outcome = ap (map outcome_of) nothing ∙ ap (λ (ts : List Processed). run (no_items gens.first t p) (map action_of ts)) (sym nothing);
      }

  by_pipe : (ten : TenantState) → slice_get state.tenants t ≡ Some ten → (q : Option Pipeline) → slice_get ten.pipelines p ≡ q → Asked gens h t p
  by_pipe ten at None e = nobody (ap (λ o. is_some (pipe_of p o)) at ∙ ap is_some e)
  by_pipe ten at (Some pipe) e =
      let worked = (holds.tenants t ten at).pipes p pipe e in
      record {
        triggers = asked_there own lossless gens h state holds t p ten pipe at e;
        stamps = stamps_there own lossless gens h state holds t p ten pipe at e;
        management = (waiting_managed pipe, worked.manages);
        results = (waiting_ended pipe, worked.ends);
        outcome = worked.outcome;
      }

  by_tenant : (o : Option TenantState) → slice_get state.tenants t ≡ o → Asked gens h t p
  by_tenant None e = nobody (ap (λ o. is_some (pipe_of p o)) e)
  by_tenant (Some ten) e = by_pipe ten e (slice_get ten.pipelines p) refl

  asked : Asked gens h t p
  asked = by_tenant (slice_get state.tenants t) refl

pub processes : EachGetsItsOwn → NothingIsLost → CancelledChangesNothing → (gens : Generations) (h : History) (state : State) → Holds gens h state → Processes gens.first h
processes own lossless late gens h state holds = record {
  triggers = λ t p. (asked own lossless gens h state holds t p).triggers;
  stamps = λ t p. (asked own lossless gens h state holds t p).stamps;
  management = λ t p. (asked own lossless gens h state holds t p).management;
  results = λ t p. (asked own lossless gens h state holds t p).results;
  outcome = λ t p. (asked own lossless gens h state holds t p).outcome;
  late = λ t p. subst (LateIsDiscarded (manager_of gens.first t p)) (sym (asked own lossless gens h state holds t p).outcome) (discarded late (manager_of gens.first t p) (actions t p h));
}

-- ---- queue items

module _ (gens : Generations) (h : History) (state : State) (holds : Holds gens h state) (t p : ℕ) where
  kept_pipe : (ten : TenantState) → slice_get state.tenants t ≡ Some ten → (q : Option Pipeline) → slice_get ten.pipelines p ≡ q → (items : ItemsState) → option_map (λ (pipe : Pipeline). pipe.worker.items) q ≡ Some items →
      (items ≡ after (no_items gens.first t p) (actions t p h)) × (outcomes t p h ≡ run (no_items gens.first t p) (actions t p h))
  kept_pipe ten at None e items f = absurd (cc)
  kept_pipe ten at (Some pipe) e items f =
      let worked = (holds.tenants t ten at).pipes p pipe e in
      (sym (the_same pipe.worker.items items f) ∙ worked.items, worked.outcome)

  kept_tenant : (o : Option TenantState) → slice_get state.tenants t ≡ o → (items : ItemsState) → option_map (λ (pipe : Pipeline). pipe.worker.items) (pipe_of p o) ≡ Some items →
      (items ≡ after (no_items gens.first t p) (actions t p h)) × (outcomes t p h ≡ run (no_items gens.first t p) (actions t p h))
  kept_tenant None e items f = absurd (cc)
  kept_tenant (Some ten) e items f = kept_pipe ten e (slice_get ten.pipelines p) refl items f

  kept : (items : ItemsState) → items_at t p state ≡ Some items → (items ≡ after (no_items gens.first t p) (actions t p h)) × (outcomes t p h ≡ run (no_items gens.first t p) (actions t p h))
  kept items e = kept_tenant (slice_get state.tenants t) refl items e

-- ---- each pipeline of the configuration is there

seated : {X : Type 0} (xs : List X) (i : ℕ) → i < length xs → is_some (slice_get xs i) ≡ true
seated [] i less = absurd (omega (arith, less))
seated (x ∷ xs) zero less = refl
seated (x ∷ xs) (suc i) less = seated xs i (omega (arith, less))

some_of : {X Y : Type 0} (f : X → Y) (o : Option X) → is_some o ≡ true → is_some (option_map f o) ≡ true
some_of f None e = e
some_of f (Some x) e = refl

module _ (gens : Generations) (h : History) (state : State) (holds : Holds gens h state) (t p : ℕ) (tenant : t < length (tenants_of gens.first)) (inside : p < length (pipelines_of gens.first t)) where
  there_in : (o : Option TenantState) → slice_get state.tenants t ≡ o → is_some o ≡ true → is_some (option_map (λ (pipe : Pipeline). pipe.worker.items) (option_and_then (λ (ten : TenantState). slice_get ten.pipelines p) o)) ≡ true
  there_in None e there = absurd (cc)
  there_in (Some ten) e there = some_of (λ (pipe : Pipeline). pipe.worker.items) (slice_get ten.pipelines p) (seated ten.pipelines p (omega (arith, inside, (holds.tenants t ten e).count)))

  is_there : is_some (items_at t p state) ≡ true
  is_there = there_in (slice_get state.tenants t) refl (seated state.tenants t (omega (arith, tenant, holds.count)))

pub keeps : OutcomesAreSaid → (gens : Generations) (h : History) (state : State) → Holds gens h state → Keeps gens.first h state
keeps says gens h state holds = record {
  there = λ t p tenant inside. is_there gens h state holds t p tenant inside;
  items = λ t p items e. (kept gens h state holds t p items e).0;
  jobs = λ t p i j items item job e at seat.
      let all = kept gens h state holds t p items e in
      says (manager_of gens.first t p) 0 (actions t p h) i j item job (ap (λ (s : ItemsState). slice_get s.items i) (sym all.0) ∙ at) seat
      ∙ ap (said item.set job.0) (sym all.1);
}
