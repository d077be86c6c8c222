-- Configurations that come into force one after another, and what all of them have in common.
use Rattle.std.specs.Prelude.{◌≡◌, ℕ, List, zero, suc, map, slice_get, unwrap_or}
use Rattle.gate_record.specs.declared.ids.ManagerKind.{ManagerKind}
use Rattle.gate_config.specs.declared.config.Config.{Config}
use Rattle.gate_config.specs.declared.config.PipelineSpec.{PipelineSpec}
use Rattle.gate_config.specs.declared.config.TenantSpec.{TenantSpec}
use Rattle.gate_config.specs.Lookups as lookups

-- the configuration of this number among the first and the later ones; a number out of range means the first
abbrev pub in_force : Config → List Config → ℕ → Config
in_force first later zero = first
in_force first later (suc g) = unwrap_or (slice_get later g) first

abbrev pub name_of_tenant : TenantSpec → List ℕ
name_of_tenant tenant = tenant.name

-- a pipeline without its rules
abbrev pub name_and_manager : PipelineSpec → List ℕ × ManagerKind
name_and_manager pipeline = (pipeline.name, pipeline.manager)

-- Both configurations have the same connections, tenants, listed connections, pipelines with their managers, and jobs of each
-- project. The projects that are listed and the rules may differ.
pub record AreAlike (first other : Config) : Type 0 where
  pub connections : lookups.connections_of other ≡ lookups.connections_of first
  pub tenants : map name_of_tenant (lookups.tenants_of other) ≡ map name_of_tenant (lookups.tenants_of first)
  pub lists : (t c : ℕ) → lookups.lists other t c ≡ lookups.lists first t c
  pub pipelines : (t : ℕ) → map name_and_manager (lookups.pipelines_of other t) ≡ map name_and_manager (lookups.pipelines_of first t)
  pub jobs : (t p : ℕ) (project : List ℕ) → lookups.jobs_of other t p project ≡ lookups.jobs_of first t p project
