-- Further definitions about `Needs`, which only private contracts and proofs cite.
use Rattle.std.specs.Prelude.{ℕ}
use Rattle.gate_config.specs.declared.config.Config.{Config}
use Rattle.gate_core.specs.declared.connection.ConnectionStep.{ConnectionStep}
use Rattle.gate_core.specs.declared.connection.ConnectionStep.TheVariants as of_connection
use Rattle.gate_core.specs.declared.pipeline.Pipeline.{Pipeline}
use Rattle.gate_core.specs.declared.pipeline.PipelineStep.{PipelineStep}
use Rattle.gate_core.specs.declared.pipeline.PipelineStep.TheVariants as of_pipeline
use Rattle.gate_core.specs.declared.tenant.TenantStep.{TenantStep}
use Rattle.gate_core.specs.declared.tenant.TenantStep.TheVariants as of_tenant
use Rattle.gate_core.specs.States.{ConnectionState, TenantState}
use Rattle.gate_core.specs.Needs.{MatchNeeds, TakeNeeds, TurnNeeds}

-- When a step may be refused memory: a taking, only where it takes a record; a matching, only for what it matches; a turn, only for what it
-- processes; and any other step wherever it changes something
abbrev pub ConnectionNeeds : ConnectionStep → ConnectionState → Type 0
ConnectionNeeds of_connection.Take conn = TakeNeeds conn
ConnectionNeeds other conn = Unit {0}

abbrev pub TenantNeeds : Config → ℕ → TenantStep → TenantState → Type 0
TenantNeeds config t of_tenant.Match tenant = MatchNeeds config t tenant
TenantNeeds config t other tenant = Unit {0}

abbrev pub PipelineNeeds : PipelineStep → Pipeline → Type 0
PipelineNeeds of_pipeline.Turn pipe = TurnNeeds pipe
PipelineNeeds other pipe = Unit {0}
