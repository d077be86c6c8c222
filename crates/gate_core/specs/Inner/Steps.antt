-- Further definitions about `Steps`, which only private contracts and proofs cite.
use Rattle.std.specs.Prelude.{ℕ, Option, slice_get, slice_set}
use Rattle.gate_config.specs.declared.generations.Generations.{Generations}
use Rattle.gate_config.specs.Generations.{count_of}
use Rattle.gate_core.specs.declared.answer.Answer.{Answer}
use Rattle.gate_core.specs.declared.connection.ConnectionStep.{ConnectionStep}
use Rattle.gate_core.specs.declared.connection.ConnectionStep.TheVariants.{Offer, Close, Renew, Take}
use Rattle.gate_core.specs.declared.pipeline.Pipeline.{Pipeline}
use Rattle.gate_core.specs.declared.pipeline.PipelineStep.{PipelineStep}
use Rattle.gate_core.specs.declared.pipeline.PipelineStep.TheVariants.{Turn}
use Rattle.gate_core.specs.declared.tenant.TenantStep.{TenantStep}
use Rattle.gate_core.specs.declared.tenant.TenantStep.TheVariants.{Fetch, Match, Give}
use Rattle.gate_core.specs.States.{ConnectionState, TenantState, State}
use Rattle.gate_core.specs.Steps.{close, fetch, give, match_gathered, move_at, offer, refused_in, renew, take}

abbrev pub connection_step : Generations → ℕ → ConnectionStep → ConnectionState → ConnectionState × Answer
connection_step gens c (Offer line) = offer line
connection_step gens c Close = close
connection_step gens c Renew = renew (count_of gens)
connection_step gens c Take = take gens c

abbrev pub tenant_step : Generations → ℕ → TenantStep → TenantState → TenantState × Answer
tenant_step gens t (Fetch count) = fetch gens.first t count
tenant_step gens t Match = match_gathered gens t
tenant_step gens t Give = give

abbrev pub refused_at : PipelineStep → ℕ → ℕ → State → State
refused_at Turn t p state = refused_in t p (slice_get state.tenants t) state
refused_at other t p state = state

-- a move of one part of a world, where the part with that number was found or not
abbrev pub with_connection : (ConnectionState → ConnectionState × Answer) → ℕ → Option ConnectionState → State → State × Answer
with_connection move c found state = move_at (λ conn. record state { connections = slice_set state.connections c conn }) move found state

abbrev pub with_tenant : (TenantState → TenantState × Answer) → ℕ → Option TenantState → State → State × Answer
with_tenant move t found state = move_at (λ tenant. record state { tenants = slice_set state.tenants t tenant }) move found state

abbrev pub with_pipeline : (Pipeline → Pipeline × Answer) → ℕ → Option Pipeline → TenantState → TenantState × Answer
with_pipeline move p found tenant = move_at (λ pipe. record tenant { pipelines = slice_set tenant.pipelines p pipe }) move found tenant
