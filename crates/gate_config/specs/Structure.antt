-- What all generations of a configuration must have in common, as a document says it.
use Rattle.std.specs.Prelude.{ℕ, List, Bool, Option, is_some, map}
use Rattle.serde_json.specs.Data.{Data}
use Rattle.gate_record.specs.declared.ids.ManagerKind.{ManagerKind}
use Rattle.gate_config.specs.Document.{PipelineTexts, TenantTexts, connection_names, tenants_in}

-- a pipeline without its rules
abbrev pub pipeline_structure : PipelineTexts → List ℕ × Option ManagerKind
pipeline_structure pipeline = (pipeline.name, pipeline.manager)

-- A tenant without the projects that it lists and without rules: by connection number, whether it lists the connection, and by
-- pipeline number, the jobs of each project.
pub record TenantStructure : Type 0 where
  pub name : List ℕ
  pub lists : List Bool
  pub pipelines : List (List ℕ × Option ManagerKind)
  pub jobs : List (List ℕ → List (List ℕ))

abbrev pub tenant_structure : TenantTexts → TenantStructure
tenant_structure tenant = record {
  name = tenant.name;
  lists = map is_some tenant.sources;
  pipelines = map pipeline_structure tenant.pipelines;
  jobs = tenant.jobs;
}

pub record Structure : Type 0 where
  pub connections : List (List ℕ)
  pub tenants : List TenantStructure

abbrev pub structure_of : Data → Structure
structure_of document = record { connections = connection_names document; tenants = map tenant_structure (tenants_in document) }
