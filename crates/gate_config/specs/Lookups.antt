-- The look-ups of a configuration, by the numbers of connections, tenants and pipelines.
use Rattle.std.specs.Prelude.{ℕ, List, [], Bool, false, Option, None, option_map, option_and_then, unwrap_or, is_some, slice_get}
use Rattle.std.specs.BTreeMap.{get_by_text}
use Rattle.std.specs.BTreeSet.{contains_text}
use Rattle.gate_rule.specs.declared.rule.Rule.{Rule}
use Rattle.gate_config.specs.declared.config.Config.{Config}
use Rattle.gate_config.specs.declared.config.TenantSpec.{TenantSpec}
use Rattle.gate_config.specs.declared.config.PipelineSpec.{PipelineSpec}
use Rattle.gate_config.specs.declared.jobs.Jobs.{Jobs}
use Rattle.gate_config.specs.declared.project_set.ProjectSet.{ProjectSet}

-- the names of the connections, by number
abbrev pub connections_of : Config → List (List ℕ)
connections_of config = config.connections

abbrev pub tenants_of : Config → List TenantSpec
tenants_of config = config.tenants

abbrev pub pipelines_of : Config → ℕ → List PipelineSpec
pipelines_of config t = unwrap_or (option_map (λ (tenant : TenantSpec). tenant.pipelines) (slice_get config.tenants t)) []

-- The project of this name is listed. Names are compared byte by byte.
abbrev pub has_project : ProjectSet → List ℕ → Bool
has_project projects name = contains_text projects.names name

-- the projects that the tenant lists under the connection, if it lists the connection
abbrev pub projects_of : Config → ℕ → ℕ → Option ProjectSet
projects_of config t c = option_and_then (λ (tenant : TenantSpec). unwrap_or (slice_get tenant.sources c) None) (slice_get config.tenants t)

-- The tenant lists the connection.
abbrev pub lists : Config → ℕ → ℕ → Bool
lists config t c = is_some (projects_of config t c)

-- The tenant lists the project under the connection. Names are compared byte by byte.
abbrev pub belongs : Config → ℕ → ℕ → List ℕ → Bool
belongs config t c project = unwrap_or (option_map (λ projects. has_project projects project) (projects_of config t c)) false

-- the rules by which the pipeline selects events of the connection
abbrev pub rules_of : Config → ℕ → ℕ → ℕ → List Rule
rules_of config t p c = unwrap_or (option_and_then (λ (pipeline : PipelineSpec). slice_get pipeline.rules c) (slice_get (pipelines_of config t) p)) []

-- the jobs that one pipeline runs for a project
abbrev pub jobs_under : Jobs → List ℕ → List (List ℕ)
jobs_under jobs project = unwrap_or (get_by_text jobs.lists project) []

-- the names of the jobs that the pipeline runs for a project
abbrev pub jobs_of : Config → ℕ → ℕ → List ℕ → List (List ℕ)
jobs_of config t p project =
    unwrap_or (option_map (λ (jobs : Jobs). jobs_under jobs project) (option_and_then (λ (tenant : TenantSpec). slice_get tenant.jobs p) (slice_get config.tenants t))) []
