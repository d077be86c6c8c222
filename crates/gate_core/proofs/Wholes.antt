-- Steps of a world, by what one of its connections or one of its tenants does.
use Rattle.std.proofs.Common.{◌≡◌, ◌∙◌, ◌<◌, sym, ap, subst, ℕ, List, length, map, Some, None, Result, Ok, Err, slice_set}
use Rattle.std.specs.Prelude.{option_and_then, slice_get, slice_index_or}
use Rattle.std.proofs.lemmas.List.{map-set}
use Rattle.gate_record.specs.declared.memory.Memory.{Memory}
use Rattle.gate_config.specs.declared.generations.Generations.{Generations}
use Rattle.gate_core.specs.declared.answer.Answer.{Answer}
use Rattle.gate_core.specs.declared.answer.Answer.TheVariants.{Idle}
use Rattle.gate_core.specs.declared.connection.Connection.{Connection}
use Rattle.gate_core.specs.declared.tenant.Tenant.{Tenant}
use Rattle.gate_core.specs.declared.pipeline.Pipeline.{Pipeline}
use Rattle.gate_core.specs.declared.pipeline.PipelineStep.{PipelineStep}
use Rattle.gate_core.specs.declared.pipeline.PipelineStep.TheVariants.{PostManage, PostResult, Turn}
use Rattle.gate_core.specs.Answers.{Does, Changes}
use Rattle.gate_core.specs.Inner.Sends.{Sends, state}
use Rattle.gate_core.specs.States.{ConnectionState, State, TenantState, pipeline_at}
use Rattle.gate_core.specs.Pipelines.{post_manage, post_result, turned}
use Rattle.gate_core.specs.Inner.Pipelines.{pipeline_step, refused_step}
use Rattle.gate_core.specs.Steps.{on_connection, on_pipeline, on_tenant, refused_in, refused_turn, send, send_of}
use Rattle.gate_core.specs.Inner.Steps.{refused_at, with_connection, with_tenant}
use Rattle.gate_core.specs.Views.{connection_view, tenant_view}
use Rattle.gate_core.specs.Inner.Views.{AreConnections, AreTenants, IsConnection, IsTenant, gens_of_connection, gens_of_tenant, number_of_connection, number_of_tenant}
use Rattle.gate_core.proofs.Elements.{each_set, lent, seen, seen_same, unseen}
use Rattle.gate_core.proofs.Tenants.{posts, turns}

-- a fact at the configuration and the number that a worker has is one at the world's
pub known : (P : Generations → ℕ → Type 0) (gens gens' : Generations) (n n' : ℕ) → (gens ≡ gens') × (n ≡ n') → P gens n → P gens' n'
known P gens gens' n n' same p = subst (P gens') same.1 (subst (λ k. P k n) same.0 p)

-- connections of which one is changed, and keeps its number and its configuration
pub still_connections : (gens : Generations) (conns : List Connection) (c : ℕ) (old new : Connection) → slice_get conns c ≡ Some old → AreConnections gens conns →
    gens_of_connection new ≡ gens_of_connection old → number_of_connection new ≡ number_of_connection old → AreConnections gens (slice_set conns c new)
still_connections gens conns c old new at all same same_number =
    let was = all c old at in
    each_set (IsConnection gens) conns c old new at all (same ∙ was.0, same_number ∙ was.1)

-- tenants of which one is
pub still_tenants : (gens : Generations) (tenants : List Tenant) (t : ℕ) (old new : Tenant) → slice_get tenants t ≡ Some old → AreTenants gens tenants →
    gens_of_tenant new ≡ gens_of_tenant old → number_of_tenant new ≡ number_of_tenant old → AreTenants gens (slice_set tenants t new)
still_tenants gens tenants t old new at all same same_number =
    let was = all t old at in
    each_set (IsTenant gens) tenants t old new at all (same ∙ was.0, same_number ∙ was.1)

-- tenants of which one was lent, and comes back with its number and its configuration
pub lent_tenants : (gens : Generations) (tenants : List Tenant) (t : ℕ) (old new : Tenant) → t < length tenants → old ≡ slice_index_or tenants t old → AreTenants gens tenants →
    gens_of_tenant new ≡ gens_of_tenant old → number_of_tenant new ≡ number_of_tenant old → AreTenants gens (slice_set tenants t new)
lent_tenants gens tenants t old new within is all same same_number = still_tenants gens tenants t old new (lent tenants t old within is) all same same_number

module _ (move : ConnectionState → ConnectionState × Answer) (c : ℕ) (conns : List Connection) (tenants : List TenantState) where
  -- a step of the connection that is looked up
  pub connection_does : (old new : Connection) (result : Result Answer Memory) → slice_get conns c ≡ Some old → Does (connection_view old) (move (connection_view old)) (connection_view new) result →
      Does (state (map connection_view conns) tenants) (on_connection move c (state (map connection_view conns) tenants)) (state (map connection_view (slice_set conns c new)) tenants) result
  connection_does old new (Ok answer) at does =
      ap (λ ks. (state ks tenants, answer)) (map-set connection_view conns c new)
      ∙ ap (λ (after : ConnectionState × Answer). (state (slice_set (map connection_view conns) c after.0) tenants, after.1)) does
      ∙ sym (ap (λ o. with_connection move c o (state (map connection_view conns) tenants)) (seen connection_view conns c old at))
  connection_does old new (Err memory) at does = (
    ap (λ ks. state ks tenants) (seen_same connection_view conns c old new at does.0),
    subst Changes (sym (ap (λ o. (with_connection move c o (state (map connection_view conns) tenants)).1) (seen connection_view conns c old at))) does.1,
  )

  -- where it isn't there
  pub connection_idles : slice_get conns c ≡ None → (state (map connection_view conns) tenants, Idle) ≡ on_connection move c (state (map connection_view conns) tenants)
  connection_idles gone = sym (ap (λ o. with_connection move c o (state (map connection_view conns) tenants)) (unseen connection_view conns c gone))

module _ (move : TenantState → TenantState × Answer) (t : ℕ) (conns : List ConnectionState) (tenants : List Tenant) where
  pub tenant_answers : (old : Tenant) → slice_get tenants t ≡ Some old → (on_tenant move t (state conns (map tenant_view tenants))).1 ≡ (move (tenant_view old)).1
  tenant_answers old at = ap (λ o. (with_tenant move t o (state conns (map tenant_view tenants))).1) (seen tenant_view tenants t old at)

  -- a step of the tenant that is looked up
  pub tenant_does : (old new : Tenant) (result : Result Answer Memory) → slice_get tenants t ≡ Some old → Does (tenant_view old) (move (tenant_view old)) (tenant_view new) result →
      Does (state conns (map tenant_view tenants)) (on_tenant move t (state conns (map tenant_view tenants))) (state conns (map tenant_view (slice_set tenants t new))) result
  tenant_does old new (Ok answer) at does =
      ap (λ ts. (state conns ts, answer)) (map-set tenant_view tenants t new)
      ∙ ap (λ (after : TenantState × Answer). (state conns (slice_set (map tenant_view tenants) t after.0), after.1)) does
      ∙ sym (ap (λ o. with_tenant move t o (state conns (map tenant_view tenants))) (seen tenant_view tenants t old at))
  tenant_does old new (Err memory) at does = (ap (state conns) (seen_same tenant_view tenants t old new at does.0), subst Changes (sym (tenant_answers old at)) does.1)

  -- where it isn't there
  pub tenant_idles : slice_get tenants t ≡ None → (state conns (map tenant_view tenants), Idle) ≡ on_tenant move t (state conns (map tenant_view tenants))
  tenant_idles gone = sym (ap (λ o. with_tenant move t o (state conns (map tenant_view tenants))) (unseen tenant_view tenants t gone))

-- a turn of one of its pipelines, which may leave something held
turn_does : (gens : Generations) (t p : ℕ) (conns : List ConnectionState) (tenants : List Tenant) (old new : Tenant) (result : Result Answer Memory) → slice_get tenants t ≡ Some old →
    Does (refused_turn p (tenant_view old)) (on_pipeline (turned gens.first) p (tenant_view old)) (tenant_view new) result →
    Does (refused_at Turn t p (state conns (map tenant_view tenants))) (on_tenant (on_pipeline (turned gens.first) p) t (state conns (map tenant_view tenants))) (state conns (map tenant_view (slice_set tenants t new))) result
turn_does gens t p conns tenants old new (Ok answer) at does = tenant_does (on_pipeline (turned gens.first) p) t conns tenants old new (Ok answer) at does
turn_does gens t p conns tenants old new (Err memory) at does = (
  ap (state conns) (map-set tenant_view tenants t new ∙ ap (slice_set (map tenant_view tenants) t) does.0)
      ∙ sym (ap (λ o. refused_in t p o (state conns (map tenant_view tenants))) (seen tenant_view tenants t old at)),
  subst Changes (sym (tenant_answers (on_pipeline (turned gens.first) p) t conns tenants old at)) does.1,
)

module _ (gens : Generations) (t p : ℕ) (conns : List ConnectionState) (tenants : List Tenant) where
  abbrev before : State
  before = state conns (map tenant_view tenants)

  -- a post to the pipeline that is looked up, or a turn of it
  pub pipeline_does : (s : PipelineStep) (old new : Tenant) (pipe pipe' : Pipeline) (result : Result Answer Memory) → slice_get tenants t ≡ Some old → slice_get old.pipelines.items p ≡ Some pipe →
      tenant_view new ≡ record (tenant_view old) { pipelines = slice_set old.pipelines.items p pipe' } → Does (refused_step s pipe) (pipeline_step gens.first s pipe) pipe' result →
      Does (refused_at s t p before) (on_tenant (on_pipeline (pipeline_step gens.first s) p) t before) (state conns (map tenant_view (slice_set tenants t new))) result
  pipeline_does (PostManage m) old new pipe pipe' result at whose same does =
      tenant_does (on_pipeline (post_manage m) p) t conns tenants old new result at
      (subst (λ ten. Does (tenant_view old) (on_pipeline (post_manage m) p (tenant_view old)) ten result) (sym same) (posts (post_manage m) p (tenant_view old) pipe pipe' result whose does))
  pipeline_does (PostResult r) old new pipe pipe' result at whose same does =
      tenant_does (on_pipeline (post_result r) p) t conns tenants old new result at
      (subst (λ ten. Does (tenant_view old) (on_pipeline (post_result r) p (tenant_view old)) ten result) (sym same) (posts (post_result r) p (tenant_view old) pipe pipe' result whose does))
  pipeline_does Turn old new pipe pipe' result at whose same does =
      turn_does gens t p conns tenants old new result at
      (subst (λ ten. Does (refused_turn p (tenant_view old)) (on_pipeline (turned gens.first) p (tenant_view old)) ten result) (sym same) (turns gens.first p (tenant_view old) pipe pipe' result whose does))

  pub pipeline_is : (old : Tenant) → slice_get tenants t ≡ Some old → pipeline_at t p before ≡ slice_get old.pipelines.items p
  pipeline_is old at = ap (option_and_then (λ (ten : TenantState). slice_get ten.pipelines p)) (seen tenant_view tenants t old at)

-- sending from the connection that is looked up
pub sending_does : (c : ℕ) (conns : List Connection) (tenants tenants' : List TenantState) (old new : Connection) (result : Result Answer Memory) → slice_get conns c ≡ Some old →
    Sends (connection_view old) tenants (connection_view new) tenants' result →
    Does (state (map connection_view conns) tenants) (send c (state (map connection_view conns) tenants)) (state (map connection_view (slice_set conns c new)) tenants') result
sending_does c conns tenants tenants' old new result at sends =
    subst (λ ks. Does (state (map connection_view conns) tenants) (send c (state (map connection_view conns) tenants)) (state ks tenants') result)
    (sym (map-set connection_view conns c new)) (sends c (map connection_view conns) (seen connection_view conns c old at))

-- where it isn't there
pub sending_idles : (c : ℕ) (conns : List Connection) (tenants : List TenantState) → slice_get conns c ≡ None → (state (map connection_view conns) tenants, Idle) ≡ send c (state (map connection_view conns) tenants)
sending_idles c conns tenants gone = sym (ap (λ o. send_of c o (state (map connection_view conns) tenants)) (unseen connection_view conns c gone))
