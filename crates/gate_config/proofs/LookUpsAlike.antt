-- Configurations of one structure answer alike what is said of no listed project and no rule.
use Rattle.std.proofs.Common.{◌≡◌, ◌∙◌, ℕ, List, [], Bool, false, Option, Some, None, map, option_map, refl, sym, ap}
use Rattle.std.specs.Prelude.{is_some, option_and_then, slice_get, unwrap_or}
use Rattle.std.proofs.lemmas.Option.{slice_get-map}
use Rattle.std.proofs.lemmas.Simd.{map-map}
use Rattle.serde_json.specs.Data.{Data}
use Rattle.gate_record.specs.declared.ids.ManagerKind.{ManagerKind}
use Rattle.gate_record.specs.declared.ids.ManagerKind.TheVariants.{Independent}
use Rattle.gate_config.specs.declared.config.Config.{Config}
use Rattle.gate_config.specs.Document.{TenantTexts, jobs_among, pipelines_among, sources_among}
use Rattle.gate_config.specs.Inner.Structures.{structure_in}
use Rattle.gate_config.specs.InForce.{AreAlike, name_and_manager, name_of_tenant}
use Rattle.gate_config.specs.Lookups.{jobs_of, lists, pipelines_of, projects_of}
use Rattle.gate_config.specs.Structure.{TenantStructure, pipeline_structure, structure_of, tenant_structure}
use Rattle.gate_config.specs.Texts.{IsReadFrom, texts_of_pipeline, texts_of_tenant}
use Rattle.gate_config.proofs.LookUps.{is_there, jobs_are, pipelines_are, projects_are}

-- ---- the look-ups of a structure

abbrev lists_in : List TenantStructure → ℕ → ℕ → Bool
lists_in tenants t c = unwrap_or (option_and_then (λ (tenant : TenantStructure). slice_get tenant.lists c) (slice_get tenants t)) false

abbrev pipelines_in : List TenantStructure → ℕ → List (List ℕ × Option ManagerKind)
pipelines_in tenants t = unwrap_or (option_map (λ (tenant : TenantStructure). tenant.pipelines) (slice_get tenants t)) []

abbrev jobs_in : List TenantStructure → ℕ → ℕ → List ℕ → List (List ℕ)
jobs_in tenants t p project = unwrap_or (option_map (λ (jobs : List ℕ → List (List ℕ)). jobs project) (option_and_then (λ (tenant : TenantStructure). slice_get tenant.jobs p) (slice_get tenants t))) []

-- ---- they are those of the texts

flag_at : (o : Option (Option (List ℕ → Bool))) → is_some (unwrap_or o None) ≡ unwrap_or (option_map is_some o) false
flag_at None = refl
flag_at (Some o) = refl

lists_at : (c : ℕ) (o : Option TenantTexts) →
    is_some (option_and_then (λ (tenant : TenantTexts). unwrap_or (slice_get tenant.sources c) None) o)
    ≡ unwrap_or (option_and_then (λ (tenant : TenantStructure). slice_get tenant.lists c) (option_map tenant_structure o)) false
lists_at c None = refl
lists_at c (Some tenant) = flag_at (slice_get tenant.sources c) ∙ ap (λ o. unwrap_or o false) (sym (slice_get-map is_some tenant.sources c))

lists_are : (tenants : List TenantTexts) (t c : ℕ) → is_some (sources_among tenants t c) ≡ lists_in (map tenant_structure tenants) t c
lists_are tenants t c =
    lists_at c (slice_get tenants t)
    ∙ ap (λ o. unwrap_or (option_and_then (λ (tenant : TenantStructure). slice_get tenant.lists c) o) false) (sym (slice_get-map tenant_structure tenants t))

pipelines_at : (o : Option TenantTexts) →
    map pipeline_structure (unwrap_or (option_map (λ (tenant : TenantTexts). tenant.pipelines) o) [])
    ≡ unwrap_or (option_map (λ (tenant : TenantStructure). tenant.pipelines) (option_map tenant_structure o)) []
pipelines_at None = refl
pipelines_at (Some tenant) = refl

shapes_are : (tenants : List TenantTexts) (t : ℕ) → map pipeline_structure (pipelines_among tenants t) ≡ pipelines_in (map tenant_structure tenants) t
shapes_are tenants t =
    pipelines_at (slice_get tenants t)
    ∙ ap (λ o. unwrap_or (option_map (λ (tenant : TenantStructure). tenant.pipelines) o) []) (sym (slice_get-map tenant_structure tenants t))

jobs_at : (p : ℕ) (project : List ℕ) (o : Option TenantTexts) →
    unwrap_or (option_map (λ (jobs : List ℕ → List (List ℕ)). jobs project) (option_and_then (λ (tenant : TenantTexts). slice_get tenant.jobs p) o)) []
    ≡ unwrap_or (option_map (λ (jobs : List ℕ → List (List ℕ)). jobs project) (option_and_then (λ (tenant : TenantStructure). slice_get tenant.jobs p) (option_map tenant_structure o))) []
jobs_at p project None = refl
jobs_at p project (Some tenant) = refl

jobs_said : (tenants : List TenantTexts) (t p : ℕ) (project : List ℕ) → jobs_among tenants t p project ≡ jobs_in (map tenant_structure tenants) t p project
jobs_said tenants t p project =
    jobs_at p project (slice_get tenants t)
    ∙ ap (λ o. unwrap_or (option_map (λ (jobs : List ℕ → List (List ℕ)). jobs project) (option_and_then (λ (tenant : TenantStructure). slice_get tenant.jobs p) o)) []) (sym (slice_get-map tenant_structure tenants t))

-- ---- and those of the configuration

config_lists : (config : Config) (t c : ℕ) → lists config t c ≡ lists_in (structure_in config).tenants t c
config_lists config t c = is_there (projects_of config t c) ∙ ap is_some (projects_are config t c) ∙ lists_are (map texts_of_tenant config.tenants) t c

config_jobs : (config : Config) (t p : ℕ) (project : List ℕ) → jobs_of config t p project ≡ jobs_in (structure_in config).tenants t p project
config_jobs config t p project = jobs_are config t p project ∙ jobs_said (map texts_of_tenant config.tenants) t p project

config_shapes : (config : Config) (t : ℕ) → map pipeline_structure (map texts_of_pipeline (pipelines_of config t)) ≡ pipelines_in (structure_in config).tenants t
config_shapes config t = ap (map pipeline_structure) (pipelines_are config t) ∙ shapes_are (map texts_of_tenant config.tenants) t

-- a name and a manager, without the case that there is none
abbrev known : List ℕ × Option ManagerKind → List ℕ × ManagerKind
known shape = (shape.0, unwrap_or shape.1 Independent)

config_pipelines : (config : Config) (t : ℕ) → map name_and_manager (pipelines_of config t) ≡ map known (pipelines_in (structure_in config).tenants t)
config_pipelines config t =
    sym (map-map known pipeline_structure (map texts_of_pipeline (pipelines_of config t)) ∙ map-map (λ p. known (pipeline_structure p)) texts_of_pipeline (pipelines_of config t))
    ∙ ap (map known) (config_shapes config t)

config_names : (config : Config) → map name_of_tenant config.tenants ≡ map (λ (tenant : TenantStructure). tenant.name) (structure_in config).tenants
config_names config =
    sym (map-map (λ (tenant : TenantStructure). tenant.name) tenant_structure (map texts_of_tenant config.tenants)
    ∙ map-map (λ t. (tenant_structure t).name) texts_of_tenant config.tenants)

pub alike : (first other : Config) → structure_in other ≡ structure_in first → AreAlike first other
alike first other e =
    let tenants : (structure_in other).tenants ≡ (structure_in first).tenants = ap (λ s. s.tenants) e in
    record {
      connections = ap (λ s. s.connections) e;
      tenants = config_names other ∙ ap (map (λ (tenant : TenantStructure). tenant.name)) tenants ∙ sym (config_names first);
      lists = λ t c. config_lists other t c ∙ ap (λ ts. lists_in ts t c) tenants ∙ sym (config_lists first t c);
      pipelines = λ t. config_pipelines other t ∙ ap (λ ts. map known (pipelines_in ts t)) tenants ∙ sym (config_pipelines first t);
      jobs = λ t p project. config_jobs other t p project ∙ ap (λ ts. jobs_in ts t p project) tenants ∙ sym (config_jobs first t p project);
    }

-- what was read has the structure of its document
pub structure_read : (document : Data) (config : Config) → IsReadFrom document config → structure_in config ≡ structure_of document
structure_read document config h = λ i. record { connections = h.connections i; tenants = map tenant_structure (h.tenants i) }
