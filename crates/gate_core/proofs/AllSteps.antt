-- Each step keeps what holds.
use Rattle.std.proofs.Common.{◌≡◌, ◌∙◌, refl, sym, ap, subst, ℕ, zero, suc, ◌+◌, ◌≤◌, ◌==◌, List, [], ◌∷◌, ◌++◌, Bool, true, false, length, Option, Some, None, slice_set, append-nil, arith, if◌then◌else◌}
use Rattle.std.specs.Prelude.{is_some, min, nat_le, nat_lt, slice_get}
use Rattle.std.proofs.lemmas.Bool.{eqb-false, ltb-true}
use Rattle.std.proofs.Math.Nat.{min-le_left, min-le_right}
use Rattle.gate_record.specs.declared.ids.ConnId.{ConnId}
use Rattle.gate_record.specs.declared.ids.PipelineId.{PipelineId}
use Rattle.gate_record.specs.declared.ids.Stamp.{Stamp}
use Rattle.gate_record.specs.declared.ids.TenantId.{TenantId}
use Rattle.gate_record.specs.declared.record.Record.{Record}
use Rattle.gate_record.specs.declared.transit.ConnEntry.{ConnEntry}
use Rattle.gate_record.specs.declared.transit.ConnEntry.TheVariants as entry
use Rattle.gate_record.specs.declared.transit.TenantItem.{TenantItem}
use Rattle.gate_record.specs.declared.transit.PipelineItem.{PipelineItem}
use Rattle.gate_record.specs.declared.transit.PipelineItem.TheVariants as item
use Rattle.gate_config.specs.declared.generations.Generations.{Generations}
use Rattle.gate_items.specs.declared.action.Action.{Action}
use Rattle.gate_items.specs.declared.action.Action.TheVariants as action
use Rattle.gate_items.specs.declared.action.JobResult.{JobResult}
use Rattle.gate_items.specs.declared.action.Manage.{Manage}
use Rattle.gate_items.specs.declared.action.Outcome.{Outcome}
use Rattle.gate_items.specs.Machine.{apply}
use Rattle.gate_pipeline.specs.declared.pass.Phase.{Phase}
use Rattle.gate_pipeline.specs.declared.pass.Phase.TheVariants as phase
use Rattle.gate_pipeline.specs.declared.which.Held.{Held}
use Rattle.gate_pipeline.specs.declared.which.Held.TheVariants as held
use Rattle.gate_pipeline.specs.declared.which.Taken.TheVariants as taken
use Rattle.gate_pipeline.specs.declared.which.Which.TheVariants as which
use Rattle.gate_pipeline.specs.States.{queue_of, with_processed}
use Rattle.gate_pipeline.specs.Triggers.{trigger_of}
use Rattle.gate_tenant.specs.States.{has_ended, room_of}
use Rattle.gate_core.specs.Inner.Steps.{with_connection, with_pipeline, with_tenant}
use Rattle.gate_core.specs.declared.answer.Answer.{Answer}
use Rattle.gate_core.specs.declared.answer.Answer.TheVariants.{Accepted, Closed, Full, Idle, Moved, Passed, Turned}
use Rattle.gate_core.specs.declared.pipeline.Pipeline.{Pipeline}
use Rattle.gate_core.specs.declared.step.Step.{Step}
use Rattle.gate_core.specs.declared.step.Step.TheVariants as step
use Rattle.gate_pipeline.specs.Histories.{triggering}
use Rattle.gate_core.specs.History.{History, finished, manage_posts, result_posts}
use Rattle.gate_core.specs.History.{processed_by}
use Rattle.gate_core.specs.Pipelines.{answer_of, first_ended, first_managed, first_triggered, found_where, passed_on, post_manage, post_result, took, turned, turned_by}
use Rattle.gate_core.specs.States.{ConnectionState, TenantState, State, with_gathered}
use Rattle.gate_core.specs.Steps.{close, fetch, fetched, give, give_from, give_to, match_from, match_gathered, offer, renew, send_from, on_pipeline, send_of, send_to, step_of, take, take_from}
use Rattle.gate_core.proofs.Going.{closed_holds, offered_holds, renewed_holds, taken_holds}
use Rattle.gate_core.proofs.Fits.{IsNoTrigger, PipeFits, fits_end, fits_manage_post, fits_passed, fits_result_post, fits_same, frees_action, frees_event, holds_ended, holds_event, holds_managed}
use Rattle.gate_core.proofs.Pushes.{IsQuiet, or_false, or_true, puts_quiet, quiet_closed, quiet_full, quiet_idle, quiet_passed, same_quiet, takes_quiet}
use Rattle.gate_core.proofs.SendSteps.{sent_holds}
use Rattle.gate_core.proofs.Sendings.{differs}
use Rattle.gate_core.proofs.Streams.{ConnSame, Holds, PipeHolds, PipeSame, conn_same, conn_untouched, pipe_same, pipe_untouched, put_same, tenant_same}
use Rattle.gate_core.proofs.Turning.{another_one, manage_fits, pipeline_goes, result_fits, turn_fits}
use Rattle.gate_core.proofs.Working.{fetched_holds, given_holds, matched_holds}
use Rattle.gate_forward.specs.Forwarding.{forwarded, sends}
use Rattle.gate_config.specs.Generations.{count_of}
use Rattle.gate_record.specs.Entries.{behind}

pub set_same : {X : Type 0} (xs : List X) (i : ℕ) (x : X) → slice_get xs i ≡ Some x → slice_set xs i x ≡ xs
set_same [] i x e = refl
set_same (y ∷ ys) zero x e = ap (λ z. z ∷ ys) (sym (ap (λ (o : Option _). first_or o x) e))
  where
    first_or : {X : Type 0} → Option X → X → X
    first_or None d = d
    first_or (Some z) d = z
set_same (y ∷ ys) (suc i) x e = ap (λ zs. y ∷ zs) (set_same ys i x e)

-- ---- answers that leave the state as it is

quiet_conn : (h : History) (s : Step) (a : Answer) → IsQuiet a → (c : ℕ) → ConnSame c h (h ++ (s, a) ∷ [])
quiet_conn h s a q c =
    let same = same_quiet h s a q in
    record { accepts = same.accepts c; closes = same.closes c; puts = puts_quiet c h s a q; takes = takes_quiet c h s a q; renews = same.renews c; entries = same.entries c }

quiet_pipe : (h : History) (s : Step) (a : Answer) → IsQuiet a → (t p : ℕ) → PipeSame t p h (h ++ (s, a) ∷ [])
quiet_pipe h s a q t p =
    let same = same_quiet h s a q in
    record { turns = same.turns t p; finishes = same.finishes t p; manages = same.manages t p; ends = same.ends t p }

pub quiet : (gens : Generations) (h : History) (state : State) (s : Step) (a : Answer) → IsQuiet a → Holds gens h state → Holds gens (h ++ (s, a) ∷ []) state
quiet gens h state s a q holds =
    let conns : (c : ℕ) → ConnSame c h (h ++ (s, a) ∷ []) = quiet_conn h s a q in
    let pipes : (t p : ℕ) → PipeSame t p h (h ++ (s, a) ∷ []) = quiet_pipe h s a q in
    record {
      count = holds.count;
      conn_count = holds.conn_count;
      laws = holds.laws;
      conns = λ c. conn_same gens h (h ++ (s, a) ∷ []) c (slice_get state.connections c) (conns c) (holds.conns c);
      tenants = λ t ten at. tenant_same gens h (h ++ (s, a) ∷ []) state.connections state.connections t ten (pipes t)
          (λ c rest kept. kept ∙ ap (forwarded gens t c) (put_same c h (h ++ (s, a) ∷ []) (conns c))) (holds.tenants t ten at);
      others = λ t p none. ((pipes t p).turns ∙ (holds.others t p none).0, (pipes t p).finishes ∙ (holds.others t p none).1);
    }

-- what holds once a step gave a state and an answer
abbrev pub Goes : Generations → History → Step → State × Answer → Type 0
Goes gens h s next = Holds gens (h ++ (s, next.1) ∷ []) next.0

conn_quiet : (gens : Generations) (h : History) (state : State) (s : Step) (a : Answer) (c : ℕ) (conn : ConnectionState) → slice_get state.connections c ≡ Some conn → IsQuiet a → Holds gens h state →
    Goes gens h s (record state { connections = slice_set state.connections c conn }, a)
conn_quiet gens h state s a c conn at q holds =
    subst (λ conns. Holds gens (h ++ (s, a) ∷ []) (record state { connections = conns })) (sym (set_same state.connections c conn at)) (quiet gens h state s a q holds)

tenant_quiet : (gens : Generations) (h : History) (state : State) (s : Step) (a : Answer) (t : ℕ) (ten : TenantState) → slice_get state.tenants t ≡ Some ten → IsQuiet a → Holds gens h state →
    Goes gens h s (record state { tenants = slice_set state.tenants t ten }, a)
tenant_quiet gens h state s a t ten at q holds =
    subst (λ tens. Holds gens (h ++ (s, a) ∷ []) (record state { tenants = tens })) (sym (set_same state.tenants t ten at)) (quiet gens h state s a q holds)

module _ (gens : Generations) (h : History) (state : State) (holds : Holds gens h state) where
  -- ---- connections

  abbrev ConnGoes : Step → ℕ → ConnectionState × Answer → Type 0
  ConnGoes s c next = Goes gens h s (record state { connections = slice_set state.connections c next.0 }, next.1)

  offer_by : (d : ConnId) (line : Record) (k : ConnectionState) → slice_get state.connections d.0 ≡ Some k → (closed room : Bool) → k.closed ≡ closed → nat_lt (length k.queue) 4096 ≡ room →
      ConnGoes (step.Offer d line) d.0
      (if closed then (k, Closed) else (if room then (record k { accepted = k.accepted + 1; queue = k.queue ++ entry.Numbered k.accepted line ∷ [] }, Accepted k.accepted) else (k, Full)))
  offer_by d line k at true room e f = conn_quiet gens h state (step.Offer d line) Closed d.0 k at quiet_closed holds
  offer_by d line k at false true e f = offered_holds gens h state d line k at e (ltb-true (length k.queue) 4096 f) holds
  offer_by d line k at false false e f = conn_quiet gens h state (step.Offer d line) Full d.0 k at quiet_full holds

  offer_goes : (d : ConnId) (line : Record) (o : Option ConnectionState) → slice_get state.connections d.0 ≡ o → Goes gens h (step.Offer d line) (with_connection (offer line) d.0 o state)
  offer_goes d line None at = quiet gens h state (step.Offer d line) Idle quiet_idle holds
  offer_goes d line (Some k) at = offer_by d line k at k.closed (nat_lt (length k.queue) 4096) refl refl

  close_by : (d : ConnId) (k : ConnectionState) → slice_get state.connections d.0 ≡ Some k → (closed room : Bool) → k.closed ≡ closed → nat_lt (length k.queue) 4096 ≡ room →
      ConnGoes (step.Close d) d.0 (if closed then (k, Closed) else (if room then (record k { closed = true; queue = k.queue ++ entry.End ∷ [] }, Moved) else (k, Full)))
  close_by d k at true room e f = conn_quiet gens h state (step.Close d) Closed d.0 k at quiet_closed holds
  close_by d k at false true e f = closed_holds gens h state d k at e (ltb-true (length k.queue) 4096 f) holds
  close_by d k at false false e f = conn_quiet gens h state (step.Close d) Full d.0 k at quiet_full holds

  close_goes : (d : ConnId) (o : Option ConnectionState) → slice_get state.connections d.0 ≡ o → Goes gens h (step.Close d) (with_connection close d.0 o state)
  close_goes d None at = quiet gens h state (step.Close d) Idle quiet_idle holds
  close_goes d (Some k) at = close_by d k at k.closed (nat_lt (length k.queue) 4096) refl refl

  renew_by : (d : ConnId) (k : ConnectionState) → slice_get state.connections d.0 ≡ Some k → (closed last room : Bool) → k.closed ≡ closed → nat_lt (length k.queue) 4096 ≡ room →
      ConnGoes (step.Renew d) d.0
      (if closed then (k, Closed) else (if last then (k, Idle)
      else (if room then (record k { renewals = k.renewals ++ k.accepted ∷ []; queue = k.queue ++ entry.Renew ∷ [] }, Moved) else (k, Full))))
  renew_by d k at true last room e f = conn_quiet gens h state (step.Renew d) Closed d.0 k at quiet_closed holds
  renew_by d k at false true room e f = conn_quiet gens h state (step.Renew d) Idle d.0 k at quiet_idle holds
  renew_by d k at false false true e f = renewed_holds gens h state d k at e (ltb-true (length k.queue) 4096 f) holds
  renew_by d k at false false false e f = conn_quiet gens h state (step.Renew d) Full d.0 k at quiet_full holds

  renew_goes : (d : ConnId) (o : Option ConnectionState) → slice_get state.connections d.0 ≡ o → Goes gens h (step.Renew d) (with_connection (renew (count_of gens)) d.0 o state)
  renew_goes d None at = quiet gens h state (step.Renew d) Idle quiet_idle holds
  renew_goes d (Some k) at = renew_by d k at k.closed (nat_le (count_of gens) (length k.renewals + 1)) (nat_lt (length k.queue) 4096) refl refl

  take_by : (d : ConnId) (k : ConnectionState) → slice_get state.connections d.0 ≡ Some k → (unsent : List (TenantId × TenantItem)) (queue : List ConnEntry) → k.unsent ≡ unsent → k.queue ≡ queue →
      ConnGoes (step.Take d) d.0 (take_from gens d.0 unsent queue k)
  take_by d k at (first ∷ unsent) queue e f = conn_quiet gens h state (step.Take d) Idle d.0 k at quiet_idle holds
  take_by d k at [] [] e f = conn_quiet gens h state (step.Take d) Idle d.0 k at quiet_idle holds
  take_by d k at [] (x ∷ queue) e f = taken_holds gens h state d k x queue at e f holds

  take_goes : (d : ConnId) (o : Option ConnectionState) → slice_get state.connections d.0 ≡ o → Goes gens h (step.Take d) (with_connection (take gens d.0) d.0 o state)
  take_goes d None at = quiet gens h state (step.Take d) Idle quiet_idle holds
  take_goes d (Some k) at = take_by d k at k.unsent k.queue refl refl

  -- ---- from connections to tenants

  send_to_goes : (d : ConnId) (k : ConnectionState) (first : TenantId × TenantItem) (unsent : List (TenantId × TenantItem)) → slice_get state.connections d.0 ≡ Some k → k.unsent ≡ first ∷ unsent →
      (o : Option TenantState) → slice_get state.tenants first.0.0 ≡ o → Goes gens h (step.Send d) (send_to d.0 k first.0.0 first.1 unsent o state)
  send_to_goes d k first unsent at front None whose = quiet gens h state (step.Send d) Idle quiet_idle holds
  send_to_goes d k first unsent at front (Some ten) whose = sent_holds gens h state d k first unsent ten at front whose holds

  send_from_goes : (d : ConnId) (k : ConnectionState) → slice_get state.connections d.0 ≡ Some k → (unsent : List (TenantId × TenantItem)) → k.unsent ≡ unsent → Goes gens h (step.Send d) (send_from d.0 k unsent state)
  send_from_goes d k at [] e = quiet gens h state (step.Send d) Idle quiet_idle holds
  send_from_goes d k at (first ∷ unsent) e = send_to_goes d k first unsent at e (slice_get state.tenants first.0.0) refl

  send_goes : (d : ConnId) (o : Option ConnectionState) → slice_get state.connections d.0 ≡ o → Goes gens h (step.Send d) (send_of d.0 o state)
  send_goes d None at = quiet gens h state (step.Send d) Idle quiet_idle holds
  send_goes d (Some k) at = send_from_goes d k at k.unsent refl

  -- ---- tenants

  abbrev TenantGoes : Step → ℕ → TenantState × Answer → Type 0
  TenantGoes s t next = Goes gens h s (record state { tenants = slice_set state.tenants t next.0 }, next.1)

  idle : (s : Step) (t : ℕ) (ten : TenantState) → slice_get state.tenants t ≡ Some ten → TenantGoes s t (ten, Idle)
  idle s t ten at = tenant_quiet gens h state s Idle t ten at quiet_idle holds

  fetch_by : (tid : TenantId) (n : ℕ) (ten : TenantState) → slice_get state.tenants tid.0 ≡ Some ten → (ended : Bool) → has_ended gens.first tid.0 ten.dispatch ≡ ended →
      (count : ℕ) → (if ended then 0 else min (min n (room_of ten.dispatch)) (length ten.queue)) ≡ count → (none : Bool) → (count == 0) ≡ none →
      TenantGoes (step.Fetch tid n) tid.0 (if none then (ten, Idle) else (with_gathered count ten, Moved))
  fetch_by tid n ten at ended e count f true g = idle (step.Fetch tid n) tid.0 ten at
  fetch_by tid n ten at true e count f false g = absurd (eqb-false count 0 g (sym f))
  fetch_by tid n ten at false e count f false g =
      let queued : min (min n (room_of ten.dispatch)) (length ten.queue) ≤ min n (room_of ten.dispatch) = min-le_left (min n (room_of ten.dispatch)) (length ten.queue) in
      let roomy : min n (room_of ten.dispatch) ≤ room_of ten.dispatch = min-le_right n (room_of ten.dispatch) in
      fetched_holds gens h state (step.Fetch tid n) Moved tid.0 ten at
      (λ past. ((λ c. conn_untouched c past (step.Fetch tid n) Moved refl refl refl refl), (λ t p. pipe_untouched t p past (step.Fetch tid n) Moved refl refl refl)))
      count (omega (arith, f, queued, roomy)) e holds

  fetch_goes : (tid : TenantId) (n : ℕ) (o : Option TenantState) → slice_get state.tenants tid.0 ≡ o → Goes gens h (step.Fetch tid n) (with_tenant (fetch gens.first tid.0 n) tid.0 o state)
  fetch_goes tid n None at = quiet gens h state (step.Fetch tid n) Idle quiet_idle holds
  fetch_goes tid n (Some ten) at = fetch_by tid n ten at (has_ended gens.first tid.0 ten.dispatch) refl (fetched gens.first tid.0 n ten) refl (fetched gens.first tid.0 n ten == 0) refl

  match_by : (tid : TenantId) (ten : TenantState) → slice_get state.tenants tid.0 ≡ Some ten → (items : List TenantItem) → ten.dispatch.gathered ≡ items → TenantGoes (step.Match tid) tid.0 (match_from gens tid.0 items ten)
  match_by tid ten at [] e = idle (step.Match tid) tid.0 ten at
  match_by tid ten at (x ∷ items) e =
      matched_holds gens h state (step.Match tid) Moved tid.0 ten at
      (λ past. ((λ c. conn_untouched c past (step.Match tid) Moved refl refl refl refl), (λ t p. pipe_untouched t p past (step.Match tid) Moved refl refl refl)))
      (ap (λ xs. length xs == 0) e ∙ differs (suc (length items)) 0 (λ no_such. absurd (omega (arith, no_such)))) holds

  match_goes : (tid : TenantId) (o : Option TenantState) → slice_get state.tenants tid.0 ≡ o → Goes gens h (step.Match tid) (with_tenant (match_gathered gens tid.0) tid.0 o state)
  match_goes tid None at = quiet gens h state (step.Match tid) Idle quiet_idle holds
  match_goes tid (Some ten) at = match_by tid ten at ten.dispatch.gathered refl

  give_by : (tid : TenantId) (ten : TenantState) → slice_get state.tenants tid.0 ≡ Some ten → (first : PipelineId × PipelineItem) (unsent : List (PipelineId × PipelineItem)) → ten.dispatch.outbox.items ≡ first ∷ unsent →
      (pipe : Pipeline) → slice_get ten.pipelines first.0.0 ≡ Some pipe →
      TenantGoes (step.Give tid) tid.0
      (record ten { dispatch = record ten.dispatch { outbox = record { items = unsent; out = None } }; pipelines = slice_set ten.pipelines first.0.0 (record pipe { triggers = pipe.triggers ++ first.1 ∷ [] }) }, Moved)
  give_by tid ten at first unsent front pipe whose =
      given_holds gens h state (step.Give tid) Moved tid.0 ten at
      (λ past. ((λ c. conn_untouched c past (step.Give tid) Moved refl refl refl refl), (λ t p. pipe_untouched t p past (step.Give tid) Moved refl refl refl)))
      first unsent pipe front whose holds

  give_to_goes : (tid : TenantId) (ten : TenantState) → slice_get state.tenants tid.0 ≡ Some ten → (first : PipelineId × PipelineItem) (unsent : List (PipelineId × PipelineItem)) → ten.dispatch.outbox.items ≡ first ∷ unsent →
      (o : Option Pipeline) → slice_get ten.pipelines first.0.0 ≡ o → TenantGoes (step.Give tid) tid.0 (give_to first.0 first.1 unsent o ten)
  give_to_goes tid ten at first unsent front None whose = idle (step.Give tid) tid.0 ten at
  give_to_goes tid ten at first unsent front (Some pipe) whose = give_by tid ten at first unsent front pipe whose

  give_from_goes : (tid : TenantId) (ten : TenantState) → slice_get state.tenants tid.0 ≡ Some ten → (unsent : List (PipelineId × PipelineItem)) → ten.dispatch.outbox.items ≡ unsent → TenantGoes (step.Give tid) tid.0 (give_from unsent ten)
  give_from_goes tid ten at [] e = idle (step.Give tid) tid.0 ten at
  give_from_goes tid ten at (first ∷ unsent) e = give_to_goes tid ten at first unsent e (slice_get ten.pipelines first.0.0) refl

  give_goes : (tid : TenantId) (o : Option TenantState) → slice_get state.tenants tid.0 ≡ o → Goes gens h (step.Give tid) (with_tenant give tid.0 o state)
  give_goes tid None at = quiet gens h state (step.Give tid) Idle quiet_idle holds
  give_goes tid (Some ten) at = give_from_goes tid ten at ten.dispatch.outbox.items refl

  -- ---- pipelines

  abbrev PipeGoes : Step → TenantId → PipelineId → TenantState → Pipeline × Answer → Type 0
  PipeGoes s tid pid ten next = TenantGoes s tid.0 (record ten { pipelines = slice_set ten.pipelines pid.0 next.0 }, next.1)

  module _ (tid : TenantId) (pid : PipelineId) (ten : TenantState) (pipe : Pipeline) (at : slice_get state.tenants tid.0 ≡ Some ten) (whose : slice_get ten.pipelines pid.0 ≡ Some pipe) where
    abbrev given : List (PipelineId × PipelineItem)
    given = (holds.tenants tid.0 ten at).past.given

    old : PipeHolds gens.first h tid.0 pid.0 given pipe
    old = (holds.tenants tid.0 ten at).pipes pid.0 pipe whose

    -- nothing is processed, posted or ended
    quiet_goes : (s : Step) (next : Pipeline) (a : Answer) → IsQuiet a → PipeHolds gens.first h tid.0 pid.0 given next → PipeGoes s tid pid ten (next, a)
    quiet_goes s next a q fits =
        pipeline_goes gens h (h ++ (s, a) ∷ []) state tid pid ten pipe next at whose (quiet_conn h s a q) (λ t p differ. quiet_pipe h s a q t p) holds
        (pipe_same gens h (h ++ (s, a) ∷ []) tid.0 pid.0 given next (quiet_pipe h s a q tid.0 pid.0) fits)

    turn_moves : (next : Pipeline) (a : Answer) → PipeHolds gens.first (h ++ (step.Turn tid pid, a) ∷ []) tid.0 pid.0 given next → PipeGoes (step.Turn tid pid) tid pid ten (next, a)
    turn_moves next a new =
        pipeline_goes gens h (h ++ (step.Turn tid pid, a) ∷ []) state tid pid ten pipe next at whose
        (λ c. conn_untouched c h (step.Turn tid pid) a refl refl refl refl)
        (λ t p differ. pipe_untouched t p h (step.Turn tid pid) a (another_one tid pid t p differ) refl refl) holds new

    -- an action is processed
    processes : (next : Pipeline) (stamp : Option Stamp) (a : Action) (o : Outcome) →
        PipeFits gens.first tid.0 pid.0 given next (processed_by tid.0 pid.0 h ++ (stamp, a, o) ∷ []) (finished tid.0 pid.0 h) (manage_posts tid.0 pid.0 h) (result_posts tid.0 pid.0 h) →
        PipeGoes (step.Turn tid pid) tid pid ten (next, Turned stamp a o)
    processes next stamp a o fits =
        turn_moves next (Turned stamp a o) (turn_fits gens h tid pid (Turned stamp a o) given next (fits_same refl (sym (or_false (finished tid.0 pid.0 h))) refl refl fits))

    passes : PipeGoes (step.Turn tid pid) tid pid ten (passed_on pipe)
    passes = quiet_goes (step.Turn tid pid) (passed_on pipe).0 Passed quiet_passed (fits_passed old)

    managed_goes : (ms : List Manage) → pipe.management ≡ ms → pipe.worker.held ≡ None → PipeGoes (step.Turn tid pid) tid pid ten (turned_by gens.first (first_managed ms pipe) pipe)
    managed_goes [] e free = passes
    managed_goes (m ∷ rest) e free =
        processes (took gens.first (taken.Manage m) (record pipe { management = rest })).0 None (action.Manage m) (apply pipe.worker.items (action.Manage m)).1
        (frees_action (holds_managed old m rest e free) (action.Manage m) refl refl)

    ended_goes : (rs : List JobResult) → pipe.results ≡ rs → pipe.worker.held ≡ None → PipeGoes (step.Turn tid pid) tid pid ten (turned_by gens.first (first_ended rs pipe) pipe)
    ended_goes [] e free = passes
    ended_goes (r ∷ rest) e free =
        processes (took gens.first (taken.Result r) (record pipe { results = rest })).0 None (action.Result r) (apply pipe.worker.items (action.Result r)).1
        (frees_action (holds_ended old r rest e free) (action.Result r) refl refl)

    triggered_goes : (items : List PipelineItem) → pipe.triggers ≡ items → pipe.worker.held ≡ None → PipeGoes (step.Turn tid pid) tid pid ten (turned_by gens.first (first_triggered items pipe) pipe)
    triggered_goes [] e free = passes
    triggered_goes (item.Event s ∷ rest) e free =
        let a = trigger_of gens.first pipe.worker.tenant pipe.worker.pipeline s.stamp s.event in
        processes (took gens.first (taken.Trigger (item.Event s)) (record pipe { triggers = rest })).0 (Some s.stamp) a (apply pipe.worker.items a).1
        (frees_event (holds_event old s rest e free) s refl)
    triggered_goes (item.End ∷ rest) e free =
        turn_moves (took gens.first (taken.Trigger item.End) (record pipe { triggers = rest })).0 Moved
        (turn_fits gens h tid pid Moved given (took gens.first (taken.Trigger item.End) (record pipe { triggers = rest })).0
        (fits_same (sym (append-nil (processed_by tid.0 pid.0 h))) (sym (or_true (finished tid.0 pid.0 h))) refl refl (fits_end old rest e free)))

    -- what is held is processed
    abbrev freed : Option Held → Pipeline × Answer
    freed waiting = (record pipe { worker = (with_processed gens.first waiting pipe.worker).0 }, answer_of (with_processed gens.first waiting pipe.worker).1)

    action_goes : (a : Action) → pipe.worker.held ≡ Some (held.Action a) → triggering (None, a, (apply pipe.worker.items a).1) ≡ None → PipeGoes (step.Turn tid pid) tid pid ten (freed (Some (held.Action a)))
    action_goes a waits no_trigger = processes (freed (Some (held.Action a))).0 None a (apply pipe.worker.items a).1 (frees_action old a waits no_trigger)

    held_goes : (waits : Held) → pipe.worker.held ≡ Some waits → IsNoTrigger (Some waits) → PipeGoes (step.Turn tid pid) tid pid ten (freed (Some waits))
    held_goes (held.Event s) e plain =
        let a = trigger_of gens.first pipe.worker.tenant pipe.worker.pipeline s.stamp s.event in
        processes (freed (Some (held.Event s))).0 (Some s.stamp) a (apply pipe.worker.items a).1 (frees_event old s e)
    held_goes (held.Action (action.Manage m)) e plain = action_goes (action.Manage m) e refl
    held_goes (held.Action (action.Result r)) e plain = action_goes (action.Result r) e refl
    held_goes (held.Action (action.Trigger key patchset jobs)) e plain = absurd plain

    turn_by : (fin : Bool) (waiting : Option Held) (now : Phase) → pipe.worker.held ≡ waiting →
        PipeGoes (step.Turn tid pid) tid pid ten (turned_by gens.first (found_where (if fin then which.Finished else (if is_some waiting then which.Held else queue_of now)) pipe) pipe)
    turn_by true waiting now e = quiet_goes (step.Turn tid pid) pipe Idle quiet_idle old
    turn_by false (Some waits) now e =
        subst (λ (o : Option Held). PipeGoes (step.Turn tid pid) tid pid ten (freed o)) (sym e) (held_goes waits e (subst IsNoTrigger e old.plain))
    turn_by false None phase.Management e = managed_goes pipe.management refl e
    turn_by false None phase.Result e = ended_goes pipe.results refl e
    turn_by false None phase.Trigger e = triggered_goes pipe.triggers refl e

    turned_goes : PipeGoes (step.Turn tid pid) tid pid ten (turned gens.first pipe)
    turned_goes = turn_by pipe.worker.finished pipe.worker.held pipe.worker.pass.phase refl

    managed_by : (m : Manage) (room : Bool) → PipeGoes (step.PostManage tid pid m) tid pid ten (if room then (record pipe { management = pipe.management ++ m ∷ [] }, Moved) else (pipe, Full))
    managed_by m true =
        pipeline_goes gens h (h ++ (step.PostManage tid pid m, Moved) ∷ []) state tid pid ten pipe (record pipe { management = pipe.management ++ m ∷ [] }) at whose
        (λ c. conn_untouched c h (step.PostManage tid pid m) Moved refl refl refl refl)
        (λ t p differ. pipe_untouched t p h (step.PostManage tid pid m) Moved refl (ap (λ b. if b then Some m else None) (another_one tid pid t p differ)) refl) holds
        (manage_fits gens h tid pid Moved given (record pipe { management = pipe.management ++ m ∷ [] }) m (fits_manage_post old m))
    managed_by m false = quiet_goes (step.PostManage tid pid m) pipe Full quiet_full old

    ended_by : (r : JobResult) (room : Bool) → PipeGoes (step.PostResult tid pid r) tid pid ten (if room then (record pipe { results = pipe.results ++ r ∷ [] }, Moved) else (pipe, Full))
    ended_by r true =
        pipeline_goes gens h (h ++ (step.PostResult tid pid r, Moved) ∷ []) state tid pid ten pipe (record pipe { results = pipe.results ++ r ∷ [] }) at whose
        (λ c. conn_untouched c h (step.PostResult tid pid r) Moved refl refl refl refl)
        (λ t p differ. pipe_untouched t p h (step.PostResult tid pid r) Moved refl refl (ap (λ b. if b then Some r else None) (another_one tid pid t p differ))) holds
        (result_fits gens h tid pid Moved given (record pipe { results = pipe.results ++ r ∷ [] }) r (fits_result_post old r))
    ended_by r false = quiet_goes (step.PostResult tid pid r) pipe Full quiet_full old

  -- a step of a pipeline, wherever it is asked for
  pipeline_of_goes : (s : Step) (move : Pipeline → Pipeline × Answer) (tid : TenantId) (p : ℕ) (ten : TenantState) → slice_get state.tenants tid.0 ≡ Some ten →
      ((pipe : Pipeline) → slice_get ten.pipelines p ≡ Some pipe → TenantGoes s tid.0 (with_pipeline move p (Some pipe) ten)) →
      (o : Option Pipeline) → slice_get ten.pipelines p ≡ o → TenantGoes s tid.0 (with_pipeline move p o ten)
  pipeline_of_goes s move tid p ten at goes None whose = idle s tid.0 ten at
  pipeline_of_goes s move tid p ten at goes (Some pipe) whose = goes pipe whose

  pipeline_step_goes : (s : Step) (move : Pipeline → Pipeline × Answer) (tid : TenantId) (p : ℕ) →
      ((ten : TenantState) → slice_get state.tenants tid.0 ≡ Some ten → (pipe : Pipeline) → slice_get ten.pipelines p ≡ Some pipe → TenantGoes s tid.0 (with_pipeline move p (Some pipe) ten)) →
      (o : Option TenantState) → slice_get state.tenants tid.0 ≡ o → Goes gens h s (with_tenant (on_pipeline move p) tid.0 o state)
  pipeline_step_goes s move tid p goes None at = quiet gens h state s Idle quiet_idle holds
  pipeline_step_goes s move tid p goes (Some ten) at = pipeline_of_goes s move tid p ten at (goes ten at) (slice_get ten.pipelines p) refl

  turn_step_goes : (tid : TenantId) (pid : PipelineId) → Goes gens h (step.Turn tid pid) (with_tenant (on_pipeline (turned gens.first) pid.0) tid.0 (slice_get state.tenants tid.0) state)
  turn_step_goes tid pid = pipeline_step_goes (step.Turn tid pid) (turned gens.first) tid pid.0 (λ ten at pipe whose. turned_goes tid pid ten pipe at whose) (slice_get state.tenants tid.0) refl

  manage_step_goes : (tid : TenantId) (pid : PipelineId) (m : Manage) → Goes gens h (step.PostManage tid pid m) (with_tenant (on_pipeline (post_manage m) pid.0) tid.0 (slice_get state.tenants tid.0) state)
  manage_step_goes tid pid m = pipeline_step_goes (step.PostManage tid pid m) (post_manage m) tid pid.0 (λ ten at pipe whose. managed_by tid pid ten pipe at whose m (nat_lt (length pipe.management) 4096)) (slice_get state.tenants tid.0) refl

  result_step_goes : (tid : TenantId) (pid : PipelineId) (r : JobResult) → Goes gens h (step.PostResult tid pid r) (with_tenant (on_pipeline (post_result r) pid.0) tid.0 (slice_get state.tenants tid.0) state)
  result_step_goes tid pid r = pipeline_step_goes (step.PostResult tid pid r) (post_result r) tid pid.0 (λ ten at pipe whose. ended_by tid pid ten pipe at whose r (nat_lt (length pipe.results) 4096)) (slice_get state.tenants tid.0) refl

-- what holds, holds after a step
pub holds_on : (gens : Generations) (h : History) (state : State) (s : Step) → Holds gens h state → Goes gens h s (step_of gens state s)
holds_on gens h state (step.Offer d line) holds = offer_goes gens h state holds d line (slice_get state.connections d.0) refl
holds_on gens h state (step.Renew d) holds = renew_goes gens h state holds d (slice_get state.connections d.0) refl
holds_on gens h state (step.Close d) holds = close_goes gens h state holds d (slice_get state.connections d.0) refl
holds_on gens h state (step.Take d) holds = take_goes gens h state holds d (slice_get state.connections d.0) refl
holds_on gens h state (step.Send d) holds = send_goes gens h state holds d (slice_get state.connections d.0) refl
holds_on gens h state (step.Fetch tid n) holds = fetch_goes gens h state holds tid n (slice_get state.tenants tid.0) refl
holds_on gens h state (step.Match tid) holds = match_goes gens h state holds tid (slice_get state.tenants tid.0) refl
holds_on gens h state (step.Give tid) holds = give_goes gens h state holds tid (slice_get state.tenants tid.0) refl
holds_on gens h state (step.PostManage tid pid m) holds = manage_step_goes gens h state holds tid pid m
holds_on gens h state (step.PostResult tid pid r) holds = result_step_goes gens h state holds tid pid r
holds_on gens h state (step.Turn tid pid) holds = turn_step_goes gens h state holds tid pid
