-- What a pipeline holds is the next that it processes.
use Rattle.std.proofs.Common.{◌≡◌, ◌∙◌, refl, sym, ap, subst, ℕ, ◌==◌, List, [], ◌∷◌, ◌++◌, Bool, true, false, length, Option, Some, None, Ok, Err, option_map, slice_set, eqb-true, if◌then◌else◌}
use Rattle.std.specs.Prelude.{◌&&◌, is_some, nat_lt, option_and_then, slice_get}
use Rattle.std.specs.List.{cons_option}
use Rattle.gate_record.specs.declared.ids.PipelineId.{PipelineId}
use Rattle.gate_record.specs.declared.ids.TenantId.{TenantId}
use Rattle.gate_record.specs.declared.transit.PipelineItem.{PipelineItem}
use Rattle.gate_record.specs.declared.transit.TenantItem.{TenantItem}
use Rattle.gate_config.specs.declared.generations.Generations.{Generations}
use Rattle.gate_pipeline.specs.declared.which.Held.{Held}
use Rattle.gate_pipeline.specs.declared.which.Taken.TheVariants as taken
use Rattle.gate_pipeline.specs.declared.which.Which.TheVariants as which
use Rattle.gate_pipeline.specs.declared.pass.Phase.{Phase}
use Rattle.gate_pipeline.specs.States.{Processed, State as Worker, held_as, processed, queue_of, with_processed}
use Rattle.gate_core.specs.Inner.Steps.{with_connection, with_pipeline, with_tenant}
use Rattle.gate_core.specs.declared.answer.Answer.{Answer}
use Rattle.gate_core.specs.declared.answer.Answer.TheVariants.{Full, Idle, Moved}
use Rattle.gate_core.specs.declared.pipeline.Pipeline.{Pipeline}
use Rattle.gate_core.specs.declared.step.Step.{Step}
use Rattle.gate_core.specs.declared.step.Step.TheVariants as step
use Rattle.gate_core.specs.Chains.{Attempt, IsChain, IsNext, answered_history, left_behind}
use Rattle.gate_core.specs.History.{is_turn, turn_of, processed_in}
use Rattle.gate_core.specs.History.{processed_of, processed_by}
use Rattle.gate_core.specs.Pipelines.{Found, answer_of, found, found_where, holding, post_manage, post_result, refused, refused_by, turned, turned_by}
use Rattle.gate_core.specs.States.{ConnectionState, State, TenantState, pipeline_at, with_gathered}
use Rattle.gate_core.specs.Steps.{close, fetch, fetched, give, give_from, give_to, match_from, match_gathered, offer, on_pipeline, refused_in, renew, refused_turn_of, send_from, send_of, send_to, step_of, take, with_refused}
use Rattle.gate_config.specs.Generations.{count_of}
use Rattle.gate_core.proofs.Spots.{AfterSet, after_set, another, it}
use Rattle.gate_delivery.proofs.Arrivals.{same_as_itself}
use Rattle.gate_delivery.proofs.Maps.{the_same}

-- the worker of a pipeline
abbrev worker_in : ℕ → Option TenantState → Option Worker
worker_in p None = None
worker_in p (Some ten) = option_map (λ (pipe : Pipeline). pipe.worker) (slice_get ten.pipelines p)

abbrev worker_at : ℕ → ℕ → State → Option Worker
worker_at t p state = worker_in p (slice_get state.tenants t)

-- ---- what a step leaves alone

module _ (state : State) (conns : List ConnectionState) (t p : ℕ) (t0 : ℕ) (ten ten' : TenantState) (at : slice_get state.tenants t0 ≡ Some ten) where
  abbrev Stays : Type 0
  Stays = worker_at t p (record { connections = conns; tenants = slice_set state.tenants t0 ten' }) ≡ worker_at t p state

  tenant_by : (t0 ≡ t → worker_in p (Some ten') ≡ worker_in p (Some ten)) → AfterSet state.tenants t0 ten' t → Stays
  tenant_by same (it e g) = ap (worker_in p) g ∙ same e ∙ sym (ap (worker_in p) (subst (λ n. slice_get state.tenants n ≡ Some ten) e at))
  tenant_by same (another differ g) = ap (worker_in p) g

  tenant_changes : (t0 ≡ t → worker_in p (Some ten') ≡ worker_in p (Some ten)) → Stays
  tenant_changes same = tenant_by same (after_set state.tenants t0 t ten ten' at)

  -- its pipelines stay
  tenant_keeps : ten'.pipelines ≡ ten.pipelines → Stays
  tenant_keeps same = tenant_changes (λ e. ap (λ (pipes : List Pipeline). option_map (λ (pipe : Pipeline). pipe.worker) (slice_get pipes p)) same)

  -- one of them changes
  module _ (p0 : ℕ) (pipe pipe' : Pipeline) (whose : slice_get ten.pipelines p0 ≡ Some pipe) where
    pipe_by : (p0 ≡ p → pipe'.worker ≡ pipe.worker) → AfterSet ten.pipelines p0 pipe' p →
        option_map (λ (x : Pipeline). x.worker) (slice_get (slice_set ten.pipelines p0 pipe') p) ≡ worker_in p (Some ten)
    pipe_by same (it e g) =
        ap (option_map (λ (x : Pipeline). x.worker)) g ∙ ap Some (same e) ∙ sym (ap (option_map (λ (x : Pipeline). x.worker)) (subst (λ n. slice_get ten.pipelines n ≡ Some pipe) e whose))
    pipe_by same (another differ g) = ap (option_map (λ (x : Pipeline). x.worker)) g

    pipe_changes : ten'.pipelines ≡ slice_set ten.pipelines p0 pipe' → ((t0 ≡ t) × (p0 ≡ p) → pipe'.worker ≡ pipe.worker) → Stays
    pipe_changes set same =
        tenant_changes (λ e. ap (λ (pipes : List Pipeline). option_map (λ (x : Pipeline). x.worker) (slice_get pipes p)) set ∙ pipe_by (λ f. same (e, f)) (after_set ten.pipelines p0 p pipe pipe' whose))

module _ (gens : Generations) (state : State) (t p : ℕ) where
  abbrev Leaves : State → Type 0
  Leaves next = worker_at t p next ≡ worker_at t p state

  conn_leaves : (move : ConnectionState → ConnectionState × Answer) (c : ℕ) (o : Option ConnectionState) → Leaves (with_connection move c o state).0
  conn_leaves move c None = refl
  conn_leaves move c (Some conn) = refl

  send_to_leaves : (c : ℕ) (conn : ConnectionState) (u : ℕ) (x : TenantItem) (unsent : List (TenantId × TenantItem)) (o : Option TenantState) → slice_get state.tenants u ≡ o → Leaves (send_to c conn u x unsent o state).0
  send_to_leaves c conn u x unsent None at = refl
  send_to_leaves c conn u x unsent (Some ten) at = tenant_keeps state (slice_set state.connections c (record conn { unsent = unsent })) t p u ten (record ten { queue = ten.queue ++ x ∷ [] }) at refl

  send_from_leaves : (c : ℕ) (conn : ConnectionState) (unsent : List (TenantId × TenantItem)) → Leaves (send_from c conn unsent state).0
  send_from_leaves c conn [] = refl
  send_from_leaves c conn (first ∷ unsent) = send_to_leaves c conn first.0.0 first.1 unsent (slice_get state.tenants first.0.0) refl

  send_leaves : (c : ℕ) (o : Option ConnectionState) → Leaves (send_of c o state).0
  send_leaves c None = refl
  send_leaves c (Some conn) = send_from_leaves c conn conn.unsent

  -- a tenant whose pipelines stay
  keeps : (u : ℕ) (ten ten' : TenantState) → slice_get state.tenants u ≡ Some ten → ten'.pipelines ≡ ten.pipelines → Leaves (record state { tenants = slice_set state.tenants u ten' })
  keeps u ten ten' at same = tenant_keeps state state.connections t p u ten ten' at same

  fetch_keeps : (n : ℕ) (none : Bool) (ten : TenantState) → (if◌then◌else◌ {A = TenantState × Answer} none (ten, Idle) (with_gathered n ten, Moved)).0.pipelines ≡ ten.pipelines
  fetch_keeps n true ten = refl
  fetch_keeps n false ten = refl

  fetch_leaves : (u n : ℕ) (o : Option TenantState) → slice_get state.tenants u ≡ o → Leaves (with_tenant (fetch gens.first u n) u o state).0
  fetch_leaves u n None at = refl
  fetch_leaves u n (Some ten) at = keeps u ten (fetch gens.first u n ten).0 at (fetch_keeps (fetched gens.first u n ten) (fetched gens.first u n ten == 0) ten)

  match_keeps : (u : ℕ) (items : List TenantItem) (ten : TenantState) → (match_from gens u items ten).0.pipelines ≡ ten.pipelines
  match_keeps u [] ten = refl
  match_keeps u (x ∷ items) ten = refl

  match_leaves : (u : ℕ) (o : Option TenantState) → slice_get state.tenants u ≡ o → Leaves (with_tenant (match_gathered gens u) u o state).0
  match_leaves u None at = refl
  match_leaves u (Some ten) at = keeps u ten (match_gathered gens u ten).0 at (match_keeps u ten.dispatch.gathered ten)

  give_by : (u : ℕ) (ten : TenantState) → slice_get state.tenants u ≡ Some ten → (q : PipelineId) (x : PipelineItem) (unsent : List (PipelineId × PipelineItem)) (pipe : Pipeline) → slice_get ten.pipelines q.0 ≡ Some pipe →
      Leaves (record state { tenants = slice_set state.tenants u (record ten { dispatch = record ten.dispatch { outbox = record { items = unsent; out = None } }; pipelines = slice_set ten.pipelines q.0 (record pipe { triggers = pipe.triggers ++ x ∷ [] }) }) })
  give_by u ten at q x unsent pipe whose =
      pipe_changes state state.connections t p u ten (record ten { dispatch = record ten.dispatch { outbox = record { items = unsent; out = None } }; pipelines = slice_set ten.pipelines q.0 (record pipe { triggers = pipe.triggers ++ x ∷ [] }) }) at
      q.0 pipe (record pipe { triggers = pipe.triggers ++ x ∷ [] }) whose refl (λ both. refl)

  give_to_leaves : (u : ℕ) (ten : TenantState) → slice_get state.tenants u ≡ Some ten → (q : PipelineId) (x : PipelineItem) (unsent : List (PipelineId × PipelineItem)) (o : Option Pipeline) → slice_get ten.pipelines q.0 ≡ o →
      Leaves (record state { tenants = slice_set state.tenants u (give_to q x unsent o ten).0 })
  give_to_leaves u ten at q x unsent None whose = keeps u ten ten at refl
  give_to_leaves u ten at q x unsent (Some pipe) whose = give_by u ten at q x unsent pipe whose

  give_from_leaves : (u : ℕ) (ten : TenantState) → slice_get state.tenants u ≡ Some ten → (unsent : List (PipelineId × PipelineItem)) → Leaves (record state { tenants = slice_set state.tenants u (give_from unsent ten).0 })
  give_from_leaves u ten at [] = keeps u ten ten at refl
  give_from_leaves u ten at (first ∷ unsent) = give_to_leaves u ten at first.0 first.1 unsent (slice_get ten.pipelines first.0.0) refl

  give_leaves : (u : ℕ) (o : Option TenantState) → slice_get state.tenants u ≡ o → Leaves (with_tenant give u o state).0
  give_leaves u None at = refl
  give_leaves u (Some ten) at = give_from_leaves u ten at ten.dispatch.outbox.items

  -- a pipeline that changes, and its worker with it only if it is another one
  abbrev IsAnother : (Pipeline → Pipeline × Answer) → ℕ → ℕ → Type 0
  IsAnother move u q = (u ≡ t) × (q ≡ p) → (pipe : Pipeline) → (move pipe).0.worker ≡ pipe.worker

  pipe_leaves : (move : Pipeline → Pipeline × Answer) (u q : ℕ) → IsAnother move u q → (ten : TenantState) → slice_get state.tenants u ≡ Some ten → (o : Option Pipeline) → slice_get ten.pipelines q ≡ o →
      Leaves (record state { tenants = slice_set state.tenants u (with_pipeline move q o ten).0 })
  pipe_leaves move u q same ten at None whose = keeps u ten ten at refl
  pipe_leaves move u q same ten at (Some pipe) whose =
      pipe_changes state state.connections t p u ten (with_pipeline move q (Some pipe) ten).0 at q pipe (move pipe).0 whose refl (λ both. same both pipe)

  on_pipe_leaves : (move : Pipeline → Pipeline × Answer) (u q : ℕ) → IsAnother move u q → (o : Option TenantState) → slice_get state.tenants u ≡ o → Leaves (with_tenant (on_pipeline move q) u o state).0
  on_pipe_leaves move u q same None at = refl
  on_pipe_leaves move u q same (Some ten) at = pipe_leaves move u q same ten at (slice_get ten.pipelines q) refl

  kept_if : (room : Bool) (pipe pipe' : Pipeline) → pipe'.worker ≡ pipe.worker → (if◌then◌else◌ {A = Pipeline × Answer} room (pipe', Moved) (pipe, Full)).0.worker ≡ pipe.worker
  kept_if true pipe pipe' same = same
  kept_if false pipe pipe' same = refl

  not_this : (u : TenantId) (q : PipelineId) → is_turn t p (step.Turn u q) ≡ false → (u.0 ≡ t) × (q.0 ≡ p) → ⊥
  not_this u q e both =
      let this : is_turn t p (step.Turn u q) ≡ true = subst (λ n. ((u.0 == n) && (q.0 == p)) ≡ true) both.0 (subst (λ n. ((u.0 == u.0) && (q.0 == n)) ≡ true) both.1 (λ i. same_as_itself u.0 i && same_as_itself q.0 i)) in
      absurd (cc)

  -- a step that is no turn of it
  step_leaves : (s : Step) → is_turn t p s ≡ false → Leaves (step_of gens state s).0
  step_leaves (step.Offer c line) e = conn_leaves (offer line) c.0 (slice_get state.connections c.0)
  step_leaves (step.Close c) e = conn_leaves close c.0 (slice_get state.connections c.0)
  step_leaves (step.Renew c) e = conn_leaves (renew (count_of gens)) c.0 (slice_get state.connections c.0)
  step_leaves (step.Take c) e = conn_leaves (take gens c.0) c.0 (slice_get state.connections c.0)
  step_leaves (step.Send c) e = send_leaves c.0 (slice_get state.connections c.0)
  step_leaves (step.Fetch u n) e = fetch_leaves u.0 n (slice_get state.tenants u.0) refl
  step_leaves (step.Match u) e = match_leaves u.0 (slice_get state.tenants u.0) refl
  step_leaves (step.Give u) e = give_leaves u.0 (slice_get state.tenants u.0) refl
  step_leaves (step.PostManage u q m) e =
      on_pipe_leaves (post_manage m) u.0 q.0 (λ both pipe. kept_if (nat_lt (length pipe.management) 4096) pipe (record pipe { management = pipe.management ++ m ∷ [] }) refl) (slice_get state.tenants u.0) refl
  step_leaves (step.PostResult u q r) e =
      on_pipe_leaves (post_result r) u.0 q.0 (λ both pipe. kept_if (nat_lt (length pipe.results) 4096) pipe (record pipe { results = pipe.results ++ r ∷ [] }) refl) (slice_get state.tenants u.0) refl
  step_leaves (step.Turn u q) e = on_pipe_leaves (turned gens.first) u.0 q.0 (λ both. absurd (not_this u q e both)) (slice_get state.tenants u.0) refl

-- ---- turns of a pipeline that holds something

-- with this worker, its turn
abbrev found_as : Bool → Held → Phase → Pipeline → Found
found_as fin waits now pipe = found_where (if fin then which.Finished else (if is_some (Some waits) then which.Held else queue_of now)) pipe

found_is : (pipe : Pipeline) (waits : Held) → pipe.worker.held ≡ Some waits → found pipe ≡ found_as pipe.worker.finished waits pipe.worker.pass.phase pipe
found_is pipe waits e = ap (λ (o : Option Held). found_where (if pipe.worker.finished then which.Finished else (if is_some o then which.Held else queue_of pipe.worker.pass.phase)) pipe) e

-- it is refused: what it holds stays
holding_keeps : (pipe : Pipeline) (o : Option Held) → pipe.worker.held ≡ o → (holding o taken.Again pipe pipe).worker ≡ pipe.worker
holding_keeps pipe None e = refl
holding_keeps pipe (Some waits) e = ap (λ (o : Option Held). held_as o pipe.worker) (sym e)

refused_keeps : (fin : Bool) (waits : Held) (now : Phase) (pipe : Pipeline) → (refused_by (found_as fin waits now pipe) pipe).worker ≡ pipe.worker
refused_keeps true waits now pipe = refl
refused_keeps false waits now pipe = holding_keeps pipe pipe.worker.held refl

refused_stays : (pipe : Pipeline) (waits : Held) → pipe.worker.held ≡ Some waits → (refused pipe).worker ≡ pipe.worker
refused_stays pipe waits e = ap (λ (f : Found). (refused_by f pipe).worker) (found_is pipe waits e) ∙ refused_keeps pipe.worker.finished waits pipe.worker.pass.phase pipe

-- it is answered: nothing is processed and it stays, or what it holds is processed
data Turns (gens : Generations) (pipe : Pipeline) (waits : Held) (next : Pipeline × Answer) : Type 0 where
  stays : next.0.worker ≡ pipe.worker → processed_of next.1 ≡ None → Turns gens pipe waits next
  processes : processed_of next.1 ≡ Some (processed gens.first waits (held_as None pipe.worker)).1 → Turns gens pipe waits next

turns_again : (gens : Generations) (pipe : Pipeline) (waits : Held) (o : Option Held) → o ≡ Some waits → processed_of (answer_of (with_processed gens.first o pipe.worker).1) ≡ Some (processed gens.first waits (held_as None pipe.worker)).1
turns_again gens pipe waits o e = ap (λ (x : Option Held). processed_of (answer_of (with_processed gens.first x pipe.worker).1)) e

turns_by : (gens : Generations) (fin : Bool) (waits : Held) (now : Phase) (pipe : Pipeline) → pipe.worker.held ≡ Some waits → Turns gens pipe waits (turned_by gens.first (found_as fin waits now pipe) pipe)
turns_by gens true waits now pipe e = stays refl refl
turns_by gens false waits now pipe e = processes (turns_again gens pipe waits pipe.worker.held e)

turns : (gens : Generations) (pipe : Pipeline) (waits : Held) → pipe.worker.held ≡ Some waits → Turns gens pipe waits (turned gens.first pipe)
turns gens pipe waits e =
    subst (λ (f : Found). Turns gens pipe waits (turned_by gens.first f pipe)) (sym (found_is pipe waits e)) (turns_by gens pipe.worker.finished waits pipe.worker.pass.phase pipe e)

-- ---- one step, and a chain of them

-- nothing is processed, and the worker stays; or this is processed
data Goes (state : State) (t p : ℕ) (one : Processed) (s : Step) (next : State × Answer) : Type 0 where
  stays : worker_at t p next.0 ≡ worker_at t p state → processed_in t p (s, next.1) ≡ None → Goes state t p one s next
  processes : processed_in t p (s, next.1) ≡ Some one → Goes state t p one s next

module _ (gens : Generations) (state : State) (waits : Held) (w : Worker) (held : w.held ≡ Some waits) where
  abbrev one : Processed
  one = (processed gens.first waits (held_as None w)).1

  -- a turn of it
  module _ (u : TenantId) (q : PipelineId) where
    abbrev s : Step
    s = step.Turn u q

    abbrev GoesBy : State × Answer → Type 0
    GoesBy next = Goes state u.0 q.0 one s next

    this : is_turn u.0 q.0 s ≡ true
    this = λ i. same_as_itself u.0 i && same_as_itself q.0 i

    turned_is : (a : Answer) → processed_in u.0 q.0 (s, a) ≡ processed_of a
    turned_is a = ap (λ b. if b then processed_of a else None) this

    after_turn : (ten : TenantState) (pipe : Pipeline) → slice_get state.tenants u.0 ≡ Some ten → slice_get ten.pipelines q.0 ≡ Some pipe → pipe.worker ≡ w → (next : Pipeline × Answer) → Turns gens pipe waits next →
        GoesBy (record state { tenants = slice_set state.tenants u.0 (record ten { pipelines = slice_set ten.pipelines q.0 next.0 }) }, next.1)
    after_turn ten pipe at whose same next (stays keeps none) =
        stays (pipe_changes state state.connections u.0 q.0 u.0 ten (record ten { pipelines = slice_set ten.pipelines q.0 next.0 }) at q.0 pipe next.0 whose refl (λ both. keeps)) (turned_is next.1 ∙ none)
    after_turn ten pipe at whose same next (processes is) = processes (turned_is next.1 ∙ is ∙ ap (λ (x : Worker). Some (processed gens.first waits (held_as None x)).1) same)

    of_pipe : (ten : TenantState) → slice_get state.tenants u.0 ≡ Some ten → (o : Option Pipeline) → slice_get ten.pipelines q.0 ≡ o → option_map (λ (pipe : Pipeline). pipe.worker) o ≡ Some w →
        GoesBy (record state { tenants = slice_set state.tenants u.0 (with_pipeline (turned gens.first) q.0 o ten).0 }, (with_pipeline (turned gens.first) q.0 o ten).1)
    of_pipe ten at None whose e = absurd (cc)
    of_pipe ten at (Some pipe) whose e =
        let same : pipe.worker ≡ w = the_same pipe.worker w e in
        after_turn ten pipe at whose same (turned gens.first pipe) (turns gens pipe waits (ap (λ (x : Worker). x.held) same ∙ held))

    of_tenant : (o : Option TenantState) → slice_get state.tenants u.0 ≡ o → worker_in q.0 o ≡ Some w → GoesBy (with_tenant (on_pipeline (turned gens.first) q.0) u.0 o state)
    of_tenant None at e = absurd (cc)
    of_tenant (Some ten) at e = of_pipe ten at (slice_get ten.pipelines q.0) refl e

    turn_goes : worker_at u.0 q.0 state ≡ Some w → GoesBy (step_of gens state s)
    turn_goes e = of_tenant (slice_get state.tenants u.0) refl e

    -- which is refused
    refused_pipe : (ten : TenantState) → slice_get state.tenants u.0 ≡ Some ten → (o : Option Pipeline) → slice_get ten.pipelines q.0 ≡ o → option_map (λ (pipe : Pipeline). pipe.worker) o ≡ Some w →
        worker_at u.0 q.0 (record state { tenants = slice_set state.tenants u.0 (with_refused q.0 o ten) }) ≡ worker_at u.0 q.0 state
    refused_pipe ten at None whose e = absurd (cc)
    refused_pipe ten at (Some pipe) whose e =
        let same : pipe.worker ≡ w = the_same pipe.worker w e in
        pipe_changes state state.connections u.0 q.0 u.0 ten (record ten { pipelines = slice_set ten.pipelines q.0 (refused pipe) }) at q.0 pipe (refused pipe) whose refl
        (λ both. refused_stays pipe waits (ap (λ (x : Worker). x.held) same ∙ held))

    refused_tenant : (o : Option TenantState) → slice_get state.tenants u.0 ≡ o → worker_in q.0 o ≡ Some w → worker_at u.0 q.0 (refused_in u.0 q.0 o state) ≡ worker_at u.0 q.0 state
    refused_tenant None at e = refl
    refused_tenant (Some ten) at e = refused_pipe ten at (slice_get ten.pipelines q.0) refl e

  -- any step, whether it is a turn of it or not
  module _ (t p : ℕ) (there : worker_at t p state ≡ Some w) where
    both_are : (i j k l : ℕ) (a b : Bool) → (i == j) ≡ a → (k == l) ≡ b → (a && b) ≡ true → (i ≡ j) × (k ≡ l)
    both_are i j k l true true e f both = (eqb-true i j e, eqb-true k l f)
    both_are i j k l true false e f both = absurd (cc)
    both_are i j k l false b e f both = absurd (cc)

    other_goes : (s : Step) → is_turn t p s ≡ false → Goes state t p one s (step_of gens state s)
    other_goes s e = stays (step_leaves gens state t p s e) (ap (λ b. if b then processed_of (step_of gens state s).1 else None) e)

    this_goes : (u : TenantId) (q : PipelineId) → (u.0 ≡ t) × (q.0 ≡ p) → Goes state t p one (step.Turn u q) (step_of gens state (step.Turn u q))
    this_goes u q same =
        subst (λ n. worker_at n p state ≡ Some w → Goes state n p one (step.Turn u q) (step_of gens state (step.Turn u q))) same.0
        (subst (λ n. worker_at u.0 n state ≡ Some w → Goes state u.0 n one (step.Turn u q) (step_of gens state (step.Turn u q))) same.1 (turn_goes u q)) there

    turn_by : (u : TenantId) (q : PipelineId) (b : Bool) → is_turn t p (step.Turn u q) ≡ b → Goes state t p one (step.Turn u q) (step_of gens state (step.Turn u q))
    turn_by u q true e = this_goes u q (both_are u.0 t q.0 p (u.0 == t) (q.0 == p) refl refl e)
    turn_by u q false e = other_goes (step.Turn u q) e

    goes : (s : Step) → Goes state t p one s (step_of gens state s)
    goes (step.Offer c line) = other_goes (step.Offer c line) refl
    goes (step.Close c) = other_goes (step.Close c) refl
    goes (step.Renew c) = other_goes (step.Renew c) refl
    goes (step.Take c) = other_goes (step.Take c) refl
    goes (step.Send c) = other_goes (step.Send c) refl
    goes (step.Fetch u n) = other_goes (step.Fetch u n) refl
    goes (step.Match u) = other_goes (step.Match u) refl
    goes (step.Give u) = other_goes (step.Give u) refl
    goes (step.PostManage u q m) = other_goes (step.PostManage u q m) refl
    goes (step.PostResult u q r) = other_goes (step.PostResult u q r) refl
    goes (step.Turn u q) = turn_by u q (is_turn t p (step.Turn u q)) refl

    -- which is refused
    this_stays : (u : TenantId) (q : PipelineId) → (u.0 ≡ t) × (q.0 ≡ p) → worker_at t p (refused_in u.0 q.0 (slice_get state.tenants u.0) state) ≡ worker_at t p state
    this_stays u q same =
        subst (λ n. worker_at n p state ≡ Some w → worker_at n p (refused_in u.0 q.0 (slice_get state.tenants u.0) state) ≡ worker_at n p state) same.0
        (subst (λ n. worker_at u.0 n state ≡ Some w → worker_at u.0 n (refused_in u.0 q.0 (slice_get state.tenants u.0) state) ≡ worker_at u.0 n state) same.1
        (λ e. refused_tenant u q (slice_get state.tenants u.0) refl e)) there

    other_pipe : (u q : ℕ) → ((u ≡ t) × (q ≡ p) → ⊥) → (ten : TenantState) → slice_get state.tenants u ≡ Some ten → (o : Option Pipeline) → slice_get ten.pipelines q ≡ o →
        worker_at t p (record state { tenants = slice_set state.tenants u (with_refused q o ten) }) ≡ worker_at t p state
    other_pipe u q differ ten at None whose = keeps gens state t p u ten ten at refl
    other_pipe u q differ ten at (Some pipe) whose =
        pipe_changes state state.connections t p u ten (record ten { pipelines = slice_set ten.pipelines q (refused pipe) }) at q pipe (refused pipe) whose refl (λ both. absurd (differ both))

    other_stays : (u q : ℕ) → ((u ≡ t) × (q ≡ p) → ⊥) → (o : Option TenantState) → slice_get state.tenants u ≡ o → worker_at t p (refused_in u q o state) ≡ worker_at t p state
    other_stays u q differ None at = refl
    other_stays u q differ (Some ten) at = other_pipe u q differ ten at (slice_get ten.pipelines q) refl

    turn_stays : (u : TenantId) (q : PipelineId) (b : Bool) → is_turn t p (step.Turn u q) ≡ b → worker_at t p (refused_in u.0 q.0 (slice_get state.tenants u.0) state) ≡ worker_at t p state
    turn_stays u q true e = this_stays u q (both_are u.0 t q.0 p (u.0 == t) (q.0 == p) refl refl e)
    turn_stays u q false e = other_stays u.0 q.0 (not_this gens state t p u q e) (slice_get state.tenants u.0) refl

    refused_leaves : (at : Option (TenantId × PipelineId)) → worker_at t p (refused_turn_of at state) ≡ worker_at t p state
    refused_leaves None = refl
    refused_leaves (Some (u, q)) = turn_stays u q (is_turn t p (step.Turn u q)) refl

-- a chain of attempts
module _ (gens : Generations) (t p : ℕ) (waits : Held) (w : Worker) (held : w.held ≡ Some waits) where
  abbrev first_one : Processed
  first_one = (processed gens.first waits (held_as None w)).1

  first_if : (left : Option Pipeline) (o : Option Processed) (rest : List Processed) → o ≡ None → IsNext waits first_one rest left → IsNext waits first_one (cons_option o rest) left
  first_if left o rest none first = subst (λ (x : Option Processed). IsNext waits first_one (cons_option x rest) left) (sym none) first

  first_is : (left : Option Pipeline) (o : Option Processed) (rest : List Processed) → o ≡ Some first_one → IsNext waits first_one (cons_option o rest) left
  first_is left o rest is = subst (λ (x : Option Processed). IsNext waits first_one (cons_option x rest) left) (sym is) refl

  after_answer : (left : Option Pipeline) (state : State) → worker_at t p state ≡ Some w → (s : Step) (answer : Answer) (next : State) (rest : List Processed) → Goes state t p first_one s (next, answer) →
      (worker_at t p next ≡ Some w → IsNext waits first_one rest left) → IsNext waits first_one (cons_option (processed_in t p (s, answer)) rest) left
  after_answer left state there s answer next rest (stays same none) further = first_if left (processed_in t p (s, answer)) rest none (further (same ∙ there))
  after_answer left state there s answer next rest (processes is) further = first_is left (processed_in t p (s, answer)) rest is

  held_by : (o : Option Pipeline) → option_map (λ (x : Pipeline). x.worker) o ≡ Some w → option_and_then (λ (x : Pipeline). x.worker.held) o ≡ Some waits
  held_by None e = absurd (cc)
  held_by (Some pipe) e = ap (λ (x : Worker). x.held) (the_same pipe.worker w e) ∙ held

  still_held : (o : Option TenantState) → worker_in p o ≡ Some w → option_and_then (λ (x : Pipeline). x.worker.held) (option_and_then (λ (ten : TenantState). slice_get ten.pipelines p) o) ≡ Some waits
  still_held None e = absurd (cc)
  still_held (Some ten) e = held_by (slice_get ten.pipelines p) e

  held_first : (state : State) → worker_at t p state ≡ Some w → (attempts : List Attempt) → IsChain gens state attempts →
      IsNext waits first_one (processed_by t p (answered_history attempts)) (pipeline_at t p (left_behind state attempts))
  held_first state there [] chain = still_held (slice_get state.tenants t) there
  held_first state there ((s, Err memory, next) ∷ attempts) chain =
      held_first next (ap (worker_at t p) chain.0 ∙ refused_leaves gens state waits w held t p there (turn_of s) ∙ there) attempts chain.1
  held_first state there ((s, Ok answer, next) ∷ attempts) chain =
      after_answer (pipeline_at t p (left_behind next attempts)) state there s answer next (processed_by t p (answered_history attempts))
      (subst (Goes state t p first_one s) (sym chain.0) (goes gens state waits w held t p there s)) (λ still. held_first next still attempts chain.1)

worker_of : (p : ℕ) (o : Option TenantState) (pipe : Pipeline) → option_and_then (λ (ten : TenantState). slice_get ten.pipelines p) o ≡ Some pipe → worker_in p o ≡ Some pipe.worker
worker_of p None pipe e = absurd (cc)
worker_of p (Some ten) pipe e = ap (option_map (λ (x : Pipeline). x.worker)) e

pub next_is_held : (gens : Generations) (state : State) (attempts : List Attempt) → IsChain gens state attempts →
    (t p : ℕ) (pipe : Pipeline) (waits : Held) → pipeline_at t p state ≡ Some pipe → pipe.worker.held ≡ Some waits →
    IsNext waits (processed gens.first waits (held_as None pipe.worker)).1 (processed_by t p (answered_history attempts)) (pipeline_at t p (left_behind state attempts))
next_is_held gens state attempts chain t p pipe waits at held = held_first gens t p waits pipe.worker held state (worker_of p (slice_get state.tenants t) pipe at) attempts chain
