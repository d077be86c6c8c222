-- The steps of a tenant keep what holds.
use Rattle.std.proofs.Common.{◌≡◌, ◌∙◌, refl, sym, ap, subst, ℕ, suc, ◌+◌, ◌<◌, ◌≤◌, ◌==◌, List, [], ◌∷◌, ◌++◌, false, length, take, drop, Some, None, slice_set, if◌then◌else◌, append_assoc, append-nil, arith}
use Rattle.std.specs.Prelude.{min, slice_get, is_some}
use Rattle.std.specs.List.{filter}
use Rattle.std.specs.Option.{option_to_list}
use Rattle.std.proofs.lemmas.List.{length-set, length-take, take-append-drop}
use Rattle.std.proofs.Math.Nat.{min-le_left}
use Rattle.gate_record.specs.declared.ids.PipelineId.{PipelineId}
use Rattle.gate_record.specs.declared.transit.TenantItem.{TenantItem}
use Rattle.gate_record.specs.declared.transit.PipelineItem.{PipelineItem}
use Rattle.gate_config.specs.declared.generations.Generations.{Generations}
use Rattle.gate_forward.specs.Forwarding.{forwarded}
use Rattle.gate_forward.specs.Histories.{items_to}
use Rattle.gate_tenant.specs.Histories.{History as Past, Happens, gathers, gives, item_for, items_for, matches, moves}
use Rattle.gate_tenant.specs.States.{State as DispatchState, has_ended, matched, room_of}
use Rattle.gate_core.specs.declared.answer.Answer.{Answer}
use Rattle.gate_core.specs.declared.pipeline.Pipeline.{Pipeline}
use Rattle.gate_core.specs.declared.step.Step.{Step}
use Rattle.gate_core.specs.History.{History, finished, processed_by}
use Rattle.gate_core.specs.States.{TenantState, State, with_gathered}
use Rattle.gate_core.specs.Steps.{with_item}
use Rattle.gate_tenant.specs.Dispatching.{is_from}
use Rattle.gate_delivery.proofs.Arrivals.{same_as_itself}
use Rattle.gate_core.proofs.Fits.{fits_given, fits_still}
use Rattle.gate_delivery.proofs.Maps.{filter_map_push, filter_map_still, the_same}
use Rattle.gate_core.proofs.Sendings.{differs}
use Rattle.gate_core.proofs.Spots.{AfterSet, after_set, another, it}
use Rattle.gate_core.proofs.Tenants.{room_after}
use Rattle.gate_core.proofs.Streams.{ConnSame, Holds, PipeHolds, PipeSame, TenantHolds, conn_same, generation_of, unsent_of, on_way, pipe_of, pipe_same, put_same, queue_of, tenant_same}

-- a tenant that changes, where nothing else does
module _ (gens : Generations) (h h' : History) (state : State) (t0 : ℕ) (ten ten' : TenantState) (at : slice_get state.tenants t0 ≡ Some ten)
    (conns : (c : ℕ) → ConnSame c h h') (pipes : (t p : ℕ) → (t0 ≡ t → ⊥) → PipeSame t p h h') where
  tenant_goes : (t : ℕ) (found : TenantState) → AfterSet state.tenants t0 ten' t → slice_get (slice_set state.tenants t0 ten') t ≡ Some found →
      TenantHolds gens h' state.connections t0 ten' → Holds gens h state → TenantHolds gens h' state.connections t found
  tenant_goes t found (it e g) there new holds =
      subst (TenantHolds gens h' state.connections t) (the_same ten' found (sym g ∙ there)) (subst (λ n. TenantHolds gens h' state.connections n ten') e new)
  tenant_goes t found (another differ g) there new holds =
      tenant_same gens h h' state.connections state.connections t found (λ p. pipes t p differ)
      (λ c rest kept. kept ∙ ap (forwarded gens t c) (put_same c h h' (conns c)))
      (holds.tenants t found (sym g ∙ there))

  none_goes : (t p : ℕ) → AfterSet state.tenants t0 ten' t → is_some (pipe_of p (slice_get (slice_set state.tenants t0 ten') t)) ≡ false →
      ((q : ℕ) → is_some (slice_get ten'.pipelines q) ≡ false → (processed_by t0 q h' ≡ []) × (finished t0 q h' ≡ false)) → Holds gens h state → (processed_by t p h' ≡ []) × (finished t p h' ≡ false)
  none_goes t p (it e g) none new holds =
      subst (λ n. (processed_by n p h' ≡ []) × (finished n p h' ≡ false)) e (new p (subst (λ o. is_some (pipe_of p o) ≡ false) g none))
  none_goes t p (another differ g) none new holds =
      let old = holds.others t p (subst (λ o. is_some (pipe_of p o) ≡ false) g none) in
      ((pipes t p differ).turns ∙ old.0, (pipes t p differ).finishes ∙ old.1)

  pub tenant_goes_on : TenantHolds gens h' state.connections t0 ten' → ((q : ℕ) → is_some (slice_get ten'.pipelines q) ≡ false → (processed_by t0 q h' ≡ []) × (finished t0 q h' ≡ false)) →
      Holds gens h state → Holds gens h' (record state { tenants = slice_set state.tenants t0 ten' })
  tenant_goes_on new none holds = record {
    count = length-set state.tenants t0 ten' ∙ holds.count;
    conn_count = holds.conn_count;
    laws = holds.laws;
    conns = λ c. conn_same gens h h' c (slice_get state.connections c) (conns c) (holds.conns c);
    tenants = λ t found there. tenant_goes t found (after_set state.tenants t0 t ten ten' at) there new holds;
    others = λ t p none'. none_goes t p (after_set state.tenants t0 t ten ten' at) none' none holds;
  }

-- ---- several items are gathered

abbrev gathering : List TenantItem → Past → Past
gathering items past = record past { state = record past.state { gathered = past.state.gathered ++ items }; taken = past.taken ++ items }

gathers_all : (gens : Generations) (t : ℕ) (items : List TenantItem) (past : Past) → Happens gens t past → past.out ≡ None → length items ≤ room_of past.state → has_ended gens.first t past.state ≡ false → Happens gens t (gathering items past)
gathers_all gens t [] past happens out room goes_on =
    subst (Happens gens t) (λ i. record past { state = record past.state { gathered = sym (append-nil past.state.gathered) i }; taken = sym (append-nil past.taken) i }) happens
gathers_all gens t (item ∷ items) past happens out room goes_on =
    subst (Happens gens t) (λ i. record past { state = record past.state { gathered = append_assoc past.state.gathered (item ∷ []) items i }; taken = append_assoc past.taken (item ∷ []) items i })
    (gathers_all gens t items (gathering (item ∷ []) past) (gathers item happens out (some_room (length items) (room_of past.state) room) goes_on) out (room_after past.state (item ∷ []) (length items) (one_of (length items) (room_of past.state) room)) goes_on)
  where
    some_room : (n m : ℕ) → suc n ≤ m → 0 < m
    some_room n m e = omega (arith, e)

    one_of : (n m : ℕ) → suc n ≤ m → 1 + n ≤ m
    one_of n m e = omega (arith, e)

within : (n : ℕ) (items : List TenantItem) (room : ℕ) → n ≤ room → length (take n items) ≤ room
within n items room low =
    let few : length (take n items) ≡ min n (length items) = length-take n items in
    let less : min n (length items) ≤ n = min-le_left n (length items) in
    omega (arith, low, few, less)

-- a step of a tenant by which its pipelines process nothing
abbrev IsInside : Step → Answer → Type 0
IsInside s a = (h : History) → ((c : ℕ) → ConnSame c h (h ++ (s, a) ∷ [])) × ((t p : ℕ) → PipeSame t p h (h ++ (s, a) ∷ []))

pub none_before : (gens : Generations) (h : History) (state : State) (t : ℕ) (ten : TenantState) → slice_get state.tenants t ≡ Some ten → Holds gens h state →
    (p : ℕ) → is_some (slice_get ten.pipelines p) ≡ false → (processed_by t p h ≡ []) × (finished t p h ≡ false)
none_before gens h state t ten at holds p none = holds.others t p (subst (λ o. is_some (pipe_of p o) ≡ false) (sym at) none)

module _ (gens : Generations) (h : History) (state : State) (s : Step) (a : Answer) (t : ℕ) (ten : TenantState) (at : slice_get state.tenants t ≡ Some ten) (inside : IsInside s a) where
  abbrev h1 : History
  h1 = h ++ (s, a) ∷ []

  -- the dispatch changes, or its tenant's queue
  dispatch_goes : (ten' : TenantState) → ten'.pipelines ≡ ten.pipelines → TenantHolds gens h1 state.connections t ten' → Holds gens h state →
      Holds gens h1 (record state { tenants = slice_set state.tenants t ten' })
  dispatch_goes ten' same new holds =
      tenant_goes_on gens h h1 state t ten ten' at (inside h).0 (λ u p differ. (inside h).1 u p) new
      (λ q none.
      let old = none_before gens h state t ten at holds q (subst (λ ps. is_some (slice_get ps q) ≡ false) same none) in
      (((inside h).1 t q).turns ∙ old.0, ((inside h).1 t q).finishes ∙ old.1)) holds

  pub fetched_holds : (n : ℕ) → n ≤ room_of ten.dispatch → has_ended gens.first t ten.dispatch ≡ false → Holds gens h state →
      Holds gens h1 (record state { tenants = slice_set state.tenants t (with_gathered n ten) })
  fetched_holds n room goes_on holds =
      let old = holds.tenants t ten at in
      let items = take n ten.queue in
      dispatch_goes (with_gathered n ten) refl
      (record {
        past = gathering items old.past;
        happens = gathers_all gens t items old.past old.happens old.none_out (subst (λ (d : DispatchState). length items ≤ room_of d) (sym old.now) (within n ten.queue (room_of ten.dispatch) room))
            (subst (λ (d : DispatchState). has_ended gens.first t d ≡ false) (sym old.now) goes_on);
        now = ap (λ (d : DispatchState). record d { gathered = d.gathered ++ items }) old.now;
        none_out = old.none_out;
        count = old.count;
        pipes = λ p pipe there. pipe_same gens h h1 t p old.past.given pipe ((inside h).1 t p) (old.pipes p pipe there);
        ways = λ c.
            ap (λ xs. filter (is_from c) xs ++ (items_to t (unsent_of (slice_get state.connections c)) ++ on_way gens t c (generation_of (slice_get state.connections c)) (queue_of (slice_get state.connections c))))
            (append_assoc old.past.taken items (drop n ten.queue) ∙ ap (λ xs. old.past.taken ++ xs) (take-append-drop n ten.queue))
            ∙ old.ways c ∙ ap (forwarded gens t c) (put_same c h h1 ((inside h).0 c));
      }) holds

  pub matched_holds : (length ten.dispatch.gathered == 0) ≡ false → Holds gens h state → Holds gens h1 (record state { tenants = slice_set state.tenants t (record ten { dispatch = matched gens t ten.dispatch }) })
  matched_holds some holds =
      let old = holds.tenants t ten at in
      dispatch_goes (record ten { dispatch = matched gens t ten.dispatch }) refl
      (record {
        past = record old.past { state = matched gens t old.past.state; done = old.past.done ++ old.past.state.gathered };
        happens = matches old.happens (subst (λ (d : DispatchState). (length d.gathered == 0) ≡ false) (sym old.now) some);
        now = ap (matched gens t) old.now;
        none_out = old.none_out;
        count = old.count;
        pipes = λ p pipe there. pipe_same gens h h1 t p old.past.given pipe ((inside h).1 t p) (old.pipes p pipe there);
        ways = λ c. old.ways c ∙ ap (forwarded gens t c) (put_same c h h1 ((inside h).0 c));
      }) holds

-- the first item of the outbox is given
module _ (gens : Generations) (h : History) (state : State) (s : Step) (a : Answer) (t : ℕ) (ten : TenantState) (at : slice_get state.tenants t ≡ Some ten) (inside : IsInside s a)
    (first : PipelineId × PipelineItem) (items : List (PipelineId × PipelineItem)) (pipe : Pipeline) (front : ten.dispatch.outbox.items ≡ first ∷ items) (whose : slice_get ten.pipelines first.0.0 ≡ Some pipe) where
  abbrev pipe' : Pipeline
  pipe' = with_item pipe first.1

  abbrev after_giving : TenantState
  after_giving = record ten { dispatch = record ten.dispatch { outbox = record { items = items; out = None } }; pipelines = slice_set ten.pipelines first.0.0 pipe' }

  for_it : (p : ℕ) → first.0.0 ≡ p → item_for p first ≡ Some first.1
  for_it p e = subst (λ n. item_for n first ≡ Some first.1) e (ap (λ b. if b then Some first.1 else None) (same_as_itself first.0.0))

  for_another : (p : ℕ) → (first.0.0 ≡ p → ⊥) → item_for p first ≡ None
  for_another p differ = ap (λ b. if b then Some first.1 else None) (differs first.0.0 p differ)

  given_pipe : (h' : History) (given : List (PipelineId × PipelineItem)) (p : ℕ) (found : Pipeline) → AfterSet ten.pipelines first.0.0 pipe' p → slice_get (slice_set ten.pipelines first.0.0 pipe') p ≡ Some found →
      PipeSame t p h h' → ((q : ℕ) (old : Pipeline) → slice_get ten.pipelines q ≡ Some old → PipeHolds gens.first h t q given old) → PipeHolds gens.first h' t p (given ++ first ∷ []) found
  given_pipe h' given p found (it e g) there same holds =
      let old = holds p pipe (subst (λ n. slice_get ten.pipelines n ≡ Some pipe) e whose) in
      subst (PipeHolds gens.first h' t p (given ++ first ∷ [])) (the_same pipe' found (sym g ∙ there))
      (pipe_same gens h h' t p (given ++ first ∷ []) pipe' same
      (fits_given old (given ++ first ∷ []) (first.1 ∷ []) (filter_map_push (item_for p) given first ∙ (λ i. items_for p given ++ option_to_list (for_it p e i)))))
  given_pipe h' given p found (another differ g) there same holds =
      let old = holds p found (sym g ∙ there) in
      pipe_same gens h h' t p (given ++ first ∷ []) found same (fits_still old (given ++ first ∷ []) (filter_map_still (item_for p) given first (for_another p differ)))

  none_given : (p : ℕ) → AfterSet ten.pipelines first.0.0 pipe' p → is_some (slice_get (slice_set ten.pipelines first.0.0 pipe') p) ≡ false → is_some (slice_get ten.pipelines p) ≡ false
  none_given p (it e g) none = absurd (cc)
  none_given p (another differ g) none = subst (λ o. is_some o ≡ false) g none

  pub given_holds : Holds gens h state → Holds gens (h ++ (s, a) ∷ []) (record state { tenants = slice_set state.tenants t after_giving })
  given_holds holds =
      let h' = h ++ (s, a) ∷ [] in
      let old = holds.tenants t ten at in
      let waits : old.past.state.outbox.items ≡ first ∷ items = ap (λ (d : DispatchState). d.outbox.items) old.now ∙ front in
      tenant_goes_on gens h h' state t ten after_giving at (inside h).0 (λ u p differ. (inside h).1 u p)
      (record {
        past = record old.past { state = record old.past.state { outbox = record { items = items; out = None } }; given = old.past.given ++ first ∷ []; out = None };
        happens = gives (moves old.happens old.none_out waits) refl;
        now = ap (λ (d : DispatchState). record d { outbox = record { items = items; out = None } }) old.now;
        none_out = refl;
        count = length-set ten.pipelines first.0.0 pipe' ∙ old.count;
        pipes = λ p found there. given_pipe h' old.past.given p found (after_set ten.pipelines first.0.0 p pipe pipe' whose) there ((inside h).1 t p) old.pipes;
        ways = λ c. old.ways c ∙ ap (forwarded gens t c) (put_same c h h' ((inside h).0 c));
      })
      (λ q none.
      let before = none_before gens h state t ten at holds q (none_given q (after_set ten.pipelines first.0.0 q pipe pipe' whose) none) in
      (((inside h).1 t q).turns ∙ before.0, ((inside h).1 t q).finishes ∙ before.1)) holds
