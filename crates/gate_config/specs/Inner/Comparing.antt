-- Whether two configurations have in common what generations must have, test by test.
use Rattle.std.specs.Prelude.{Bool, true, false, ◌&&◌, Option, String, string_bytes, is_some}
use Rattle.std.specs.BTreeMap.{keys}
use Rattle.std.specs.Bool.{beq}
use Rattle.std.specs.Cmp.Lexicographic.{pointwise}
use Rattle.std.specs.List.{list_all}
use Rattle.std.specs.Str.{bytes_eq}
use Rattle.std.specs.declared.alloc.Global.{Global}
use Rattle.gate_record.specs.declared.ids.ManagerKind.{ManagerKind}
use Rattle.gate_record.specs.declared.ids.ManagerKind.TheVariants.{Independent, Dependent}
use Rattle.gate_config.specs.declared.config.Config.{Config}
use Rattle.gate_config.specs.declared.config.PipelineSpec.{PipelineSpec}
use Rattle.gate_config.specs.declared.config.TenantSpec.{TenantSpec}
use Rattle.gate_config.specs.declared.jobs.Jobs.{Jobs}
use Rattle.gate_config.specs.declared.project_set.ProjectSet.{ProjectSet}
use Rattle.gate_config.specs.Lookups.{jobs_under}

abbrev pub same_listing : Option ProjectSet → Option ProjectSet → Bool
same_listing first other = beq (is_some first) (is_some other)

abbrev pub same_manager : ManagerKind → ManagerKind → Bool
same_manager Independent Independent = true
same_manager Independent Dependent = false
same_manager Dependent Independent = false
same_manager Dependent Dependent = true

abbrev pub same_pipeline : PipelineSpec → PipelineSpec → Bool
same_pipeline first other = bytes_eq first.name other.name && same_manager first.manager other.manager

-- Both have the same jobs for the project of this name.
abbrev pub agree_on : Jobs → Jobs → String Global → Bool
agree_on first other project = pointwise bytes_eq (jobs_under first (string_bytes project)) (jobs_under other (string_bytes project))

-- They agree on each project for which a third has jobs.
abbrev pub agree_at : Jobs → Jobs → Jobs → Bool
agree_at first other projects = list_all (agree_on first other) (keys projects.lists)

abbrev pub same_jobs : Jobs → Jobs → Bool
same_jobs first other = agree_at first other first && agree_at first other other

abbrev pub same_tenant : TenantSpec → TenantSpec → Bool
same_tenant first other =
    bytes_eq first.name other.name && pointwise same_listing first.sources other.sources && pointwise same_pipeline first.pipelines other.pipelines
    && pointwise same_jobs first.jobs other.jobs

abbrev pub is_alike : Config → Config → Bool
is_alike first other = pointwise bytes_eq first.connections other.connections && pointwise same_tenant first.tenants other.tenants
