-- The core as a machine over plain lists: the state after each step, and the step's answer, with any number of connections, tenants and
-- pipelines.
use Rattle.std.specs.Prelude.{ℕ, ◌+◌, ◌==◌, List, [], ◌∷◌, ◌++◌, true, false, nat_le, min, length, map, Option, Some, None, slice_get, slice_set, if◌then◌else◌}
use Rattle.std.specs.List.{range_with_len}
use Rattle.gate_record.specs.declared.ids.PipelineId.{PipelineId}
use Rattle.gate_record.specs.declared.ids.TenantId.{TenantId}
use Rattle.gate_record.specs.declared.record.Record.{Record}
use Rattle.gate_record.specs.declared.transit.ConnEntry.{ConnEntry}
use Rattle.gate_record.specs.declared.transit.ConnEntry.TheVariants as entry
use Rattle.gate_record.specs.declared.transit.TenantItem.{TenantItem}
use Rattle.gate_record.specs.declared.transit.PipelineItem.{PipelineItem}
use Rattle.gate_config.specs.declared.config.Config.{Config}
use Rattle.gate_config.specs.declared.generations.Generations.{Generations}
use Rattle.gate_config.specs.Generations.{count_of}
use Rattle.gate_record.specs.Entries.{behind}
use Rattle.gate_config.specs.Lookups.{connections_of, tenants_of, pipelines_of}
use Rattle.gate_forward.specs.Forwarding.{sends}
use Rattle.gate_tenant.specs.States.{first_state, has_ended, matched, room_of}
use Rattle.gate_core.specs.declared.answer.Answer.{Answer}
use Rattle.gate_core.specs.declared.answer.Answer.TheVariants.{Accepted, Closed, Full, Moved, Idle}
use Rattle.gate_core.specs.declared.pipeline.Pipeline.{Pipeline}
use Rattle.gate_core.specs.declared.step.Step.{Step}
use Rattle.gate_core.specs.declared.step.Step.TheVariants as step
use Rattle.gate_core.specs.History.{turn_of}
use Rattle.gate_record.specs.Limits.{has_place}
use Rattle.gate_core.specs.Pipelines.{fresh_pipeline, post_manage, post_result, refused, turned}
use Rattle.gate_core.specs.States.{ConnectionState, TenantState, State, with_gathered}

-- ---- the state in which nothing was offered yet

abbrev pub new_connection : ConnectionState
new_connection = record { accepted = 0; renewals = []; closed = false; queue = []; generation = 0; unsent = [] }

abbrev pub new_tenant : Config → ℕ → TenantState
new_tenant config t = record { queue = []; dispatch = first_state config t; pipelines = map (fresh_pipeline config t) (range_with_len 0 (length (pipelines_of config t))) }

abbrev pub first : Generations → State
first gens = record {
  connections = map (λ _. new_connection) (connections_of gens.first);
  tenants = map (new_tenant gens.first) (range_with_len 0 (length (tenants_of gens.first)));
}

-- ---- a part of something does something

-- The part that was found moves and answers, and the whole gets the moved part. Where no part was found, all stays as it is.
abbrev pub move_at : {Whole Part : Type 0} → (Part → Whole) → (Part → Part × Answer) → Option Part → Whole → Whole × Answer
move_at with move None whole = (whole, Idle)
move_at with move (Some part) whole = (with (move part).0, (move part).1)

-- ---- steps of a connection and its forwarder

abbrev pub offer : Record → ConnectionState → ConnectionState × Answer
offer line conn =
    if conn.closed then (conn, Closed)
    else (if has_place conn.queue
    then (record conn { accepted = conn.accepted + 1; queue = conn.queue ++ entry.Numbered conn.accepted line ∷ [] }, Accepted conn.accepted)
    else (conn, Full))

abbrev pub close : ConnectionState → ConnectionState × Answer
close conn =
    if conn.closed then (conn, Closed)
    else (if has_place conn.queue then (record conn { closed = true; queue = conn.queue ++ entry.End ∷ [] }, Moved) else (conn, Full))

-- The next of `count` generations is put in force for the records that follow. The answer is `Idle` where the last one is in force already
abbrev pub renew : ℕ → ConnectionState → ConnectionState × Answer
renew count conn =
    if conn.closed then (conn, Closed)
    else (if nat_le count (length conn.renewals + 1) then (conn, Idle)
    else (if has_place conn.queue
    then (record conn { renewals = conn.renewals ++ conn.accepted ∷ []; queue = conn.queue ++ entry.Renew ∷ [] }, Moved)
    else (conn, Full)))

-- the step `take`, with these items in the forwarder's outbox and these entries in the queue
abbrev pub take_from : Generations → ℕ → List (TenantId × TenantItem) → List ConnEntry → ConnectionState → ConnectionState × Answer
take_from gens c (item ∷ unsent) queue conn = (conn, Idle)
take_from gens c [] [] conn = (conn, Idle)
take_from gens c [] (entry ∷ queue) conn =
    (record conn { queue = queue; generation = behind conn.generation entry; unsent = sends gens c conn.generation entry }, Moved)

abbrev pub take : Generations → ℕ → ConnectionState → ConnectionState × Answer
take gens c conn = take_from gens c conn.unsent conn.queue conn

-- ---- steps of a tenant

-- how many items a fetch of `count` gathers: as many as wait and as there is room for, and none once all end marks were matched
abbrev pub fetched : Config → ℕ → ℕ → TenantState → ℕ
fetched config t count tenant = if has_ended config t tenant.dispatch then 0 else min (min count (room_of tenant.dispatch)) (length tenant.queue)

-- the step `fetch` that gathers n items
abbrev pub fetch_first : ℕ → TenantState → TenantState × Answer
fetch_first n tenant = if n == 0 then (tenant, Idle) else (with_gathered n tenant, Moved)

abbrev pub fetch : Config → ℕ → ℕ → TenantState → TenantState × Answer
fetch config t count tenant = fetch_first (fetched config t count tenant) tenant

-- the step `match`, with these items gathered
abbrev pub match_from : Generations → ℕ → List TenantItem → TenantState → TenantState × Answer
match_from gens t [] tenant = (tenant, Idle)
match_from gens t (item ∷ items) tenant = (record tenant { dispatch = matched gens t tenant.dispatch }, Moved)

abbrev pub match_gathered : Generations → ℕ → TenantState → TenantState × Answer
match_gathered gens t tenant = match_from gens t tenant.dispatch.gathered tenant

-- the pipeline after the item was put at the back of its queue
abbrev pub with_item : Pipeline → PipelineItem → Pipeline
with_item pipeline item = record pipeline { triggers = pipeline.triggers ++ item ∷ [] }

-- the step `give`, with the pipeline that is to get the first item of the outbox
abbrev pub give_to : PipelineId → PipelineItem → List (PipelineId × PipelineItem) → Option Pipeline → TenantState → TenantState × Answer
give_to p item unsent None tenant = (tenant, Idle)
give_to p item unsent (Some pipeline) tenant =
    (record tenant { dispatch = record tenant.dispatch { outbox = record { items = unsent; out = None } }; pipelines = slice_set tenant.pipelines p.0 (with_item pipeline item) }, Moved)

-- the step `give`, with these items in the outbox
abbrev pub give_from : List (PipelineId × PipelineItem) → TenantState → TenantState × Answer
give_from [] tenant = (tenant, Idle)
give_from (first ∷ unsent) tenant = give_to first.0 first.1 unsent (slice_get tenant.pipelines first.0.0) tenant

abbrev pub give : TenantState → TenantState × Answer
give tenant = give_from tenant.dispatch.outbox.items tenant

-- a post to pipeline p, or a turn of it
abbrev pub on_pipeline : (Pipeline → Pipeline × Answer) → ℕ → TenantState → TenantState × Answer
on_pipeline move p tenant = move_at (λ pipe. record tenant { pipelines = slice_set tenant.pipelines p pipe }) move (slice_get tenant.pipelines p) tenant

-- the tenant after a turn of this pipeline was refused memory
abbrev pub with_refused : ℕ → Option Pipeline → TenantState → TenantState
with_refused p None tenant = tenant
with_refused p (Some pipe) tenant = record tenant { pipelines = slice_set tenant.pipelines p (refused pipe) }

abbrev pub refused_turn : ℕ → TenantState → TenantState
refused_turn p tenant = with_refused p (slice_get tenant.pipelines p) tenant

-- ---- steps of a world, where an id out of range finds nothing to do

abbrev pub on_connection : (ConnectionState → ConnectionState × Answer) → ℕ → State → State × Answer
on_connection move c state = move_at (λ conn. record state { connections = slice_set state.connections c conn }) move (slice_get state.connections c) state

abbrev pub on_tenant : (TenantState → TenantState × Answer) → ℕ → State → State × Answer
on_tenant move t state = move_at (λ tenant. record state { tenants = slice_set state.tenants t tenant }) move (slice_get state.tenants t) state

-- the item goes to the back of the tenant's queue, and the others stay in the forwarder's outbox
abbrev pub send_to : ℕ → ConnectionState → ℕ → TenantItem → List (TenantId × TenantItem) → Option TenantState → State → State × Answer
send_to c conn t item unsent None state = (state, Idle)
send_to c conn t item unsent (Some tenant) state =
    (record { connections = slice_set state.connections c (record conn { unsent = unsent }); tenants = slice_set state.tenants t (record tenant { queue = tenant.queue ++ item ∷ [] }) }, Moved)

-- the step `send`, with these items in the forwarder's outbox
abbrev pub send_from : ℕ → ConnectionState → List (TenantId × TenantItem) → State → State × Answer
send_from c conn [] state = (state, Idle)
send_from c conn (first ∷ unsent) state = send_to c conn first.0.0 first.1 unsent (slice_get state.tenants first.0.0) state

abbrev pub send_of : ℕ → Option ConnectionState → State → State × Answer
send_of c None state = (state, Idle)
send_of c (Some conn) state = send_from c conn conn.unsent state

abbrev pub send : ℕ → State → State × Answer
send c state = send_of c (slice_get state.connections c) state

-- the state that a step leaves, and its answer
abbrev pub step_of : Generations → State → Step → State × Answer
step_of gens state (step.Offer c line) = on_connection (offer line) c.0 state
step_of gens state (step.Close c) = on_connection close c.0 state
step_of gens state (step.Renew c) = on_connection (renew (count_of gens)) c.0 state
step_of gens state (step.Take c) = on_connection (take gens c.0) c.0 state
step_of gens state (step.Send c) = send c.0 state
step_of gens state (step.Fetch t count) = on_tenant (fetch gens.first t.0 count) t.0 state
step_of gens state (step.Match t) = on_tenant (match_gathered gens t.0) t.0 state
step_of gens state (step.Give t) = on_tenant give t.0 state
step_of gens state (step.PostManage t p manage) = on_tenant (on_pipeline (post_manage manage) p.0) t.0 state
step_of gens state (step.PostResult t p ended) = on_tenant (on_pipeline (post_result ended) p.0) t.0 state
step_of gens state (step.Turn t p) = on_tenant (on_pipeline (turned gens.first) p.0) t.0 state

-- the state that a step leaves when it is refused memory: the old one, save that a turn holds what it took, and has counted the taking in
-- its phase
abbrev pub refused_in : ℕ → ℕ → Option TenantState → State → State
refused_in t p None state = state
refused_in t p (Some tenant) state = record state { tenants = slice_set state.tenants t (refused_turn p tenant) }

abbrev pub refused_turn_of : Option (TenantId × PipelineId) → State → State
refused_turn_of None state = state
refused_turn_of (Some at) state = refused_in at.0.0 at.1.0 (slice_get state.tenants at.0.0) state

abbrev pub refused_step : State → Step → State
refused_step state s = refused_turn_of (turn_of s) state

-- steps one after another, each with its answer
abbrev pub run_from : Generations → State → List Step → List (Step × Answer)
run_from gens state [] = []
run_from gens state (s ∷ steps) = (s, (step_of gens state s).1) ∷ run_from gens (step_of gens state s).0 steps

-- the answers alone
abbrev pub answers_to : Generations → State → List Step → List Answer
answers_to gens state steps = map (λ (event : Step × Answer). event.1) (run_from gens state steps)

-- the state that steps leave
abbrev pub left_by : Generations → State → List Step → State
left_by gens state [] = state
left_by gens state (s ∷ steps) = left_by gens (step_of gens state s).0 steps
