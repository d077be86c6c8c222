-- What `gate check` prints of a configuration.
use Rattle.std.specs.Prelude.{ℕ, List, ◌++◌, length, codes, decimal}
use Rattle.std.specs.List.{enumerate_from, flat_map, sum_by}
use Rattle.gate_record.specs.Names.{name_text}
use Rattle.gate_record.specs.declared.ids.ManagerKind.{ManagerKind}
use Rattle.gate_record.specs.declared.ids.ManagerKind.TheVariants.{Independent, Dependent}
use Rattle.gate_config.specs.declared.config.Config.{Config}
use Rattle.gate_config.specs.declared.config.PipelineSpec.{PipelineSpec}
use Rattle.gate_config.specs.declared.config.TenantSpec.{TenantSpec}
use Rattle.gate_config.specs.Lookups.{connections_of, rules_of, tenants_of}

abbrev pub manager_word : ManagerKind → List ℕ
manager_word Independent = codes "independent"
manager_word Dependent = codes "dependent"

-- how many rules pipeline p of tenant t has, over all connections
abbrev pub rules_count : Config → ℕ → ℕ → ℕ
rules_count config t p = sum_by (λ (connection : ℕ × List ℕ). length (rules_of config t p connection.0)) (enumerate_from 0 (connections_of config))

-- the line of a connection, which comes with its number
abbrev pub connection_line : ℕ × List ℕ → List ℕ
connection_line connection = codes "connection " ++ decimal connection.0 ++ codes " " ++ name_text connection.1 ++ codes "\n"

-- the beginning of a pipeline's line: its tenant's number, its own number and its name
abbrev pub pipeline_start : ℕ → ℕ → List ℕ → List ℕ
pipeline_start t p name = codes "pipeline " ++ decimal t ++ codes " " ++ decimal p ++ codes " " ++ name_text name

-- the line of a pipeline of tenant t; the pipeline comes with its number
abbrev pub pipeline_line : Config → ℕ → ℕ × PipelineSpec → List ℕ
pipeline_line config t pipeline =
    pipeline_start t pipeline.0 pipeline.1.name ++ codes " " ++ manager_word pipeline.1.manager ++ codes " rules " ++ decimal (rules_count config t pipeline.0) ++ codes "\n"

abbrev pub tenant_line : ℕ × TenantSpec → List ℕ
tenant_line tenant = codes "tenant " ++ decimal tenant.0 ++ codes " " ++ name_text tenant.1.name ++ codes "\n"

-- the line of a tenant, which comes with its number, and then those of its pipelines
abbrev pub tenant_lines : Config → ℕ × TenantSpec → List ℕ
tenant_lines config tenant = tenant_line tenant ++ flat_map (pipeline_line config tenant.0) (enumerate_from 0 tenant.1.pipelines)

-- the whole text: a line for each connection, then the lines of each tenant
abbrev pub check_text : Config → List ℕ
check_text config = flat_map connection_line (enumerate_from 0 (connections_of config)) ++ flat_map (tenant_lines config) (enumerate_from 0 (tenants_of config))
