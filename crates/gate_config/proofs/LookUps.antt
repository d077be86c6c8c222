-- The look-ups of a configuration are those of what its document says.
use Rattle.std.proofs.Common.{◌≡◌, ◌∙◌, ℕ, List, [], Bool, false, Option, Some, None, map, option_map, refl, sym, ap}
use Rattle.std.specs.Prelude.{is_some, option_and_then, slice_get, unwrap_or}
use Rattle.std.proofs.lemmas.Option.{slice_get-map}
use Rattle.gate_rule.specs.declared.rule.Rule.{Rule}
use Rattle.gate_config.specs.declared.config.Config.{Config}
use Rattle.gate_config.specs.declared.config.PipelineSpec.{PipelineSpec}
use Rattle.gate_config.specs.declared.config.TenantSpec.{TenantSpec}
use Rattle.gate_config.specs.declared.jobs.Jobs.{Jobs}
use Rattle.gate_config.specs.declared.project_set.ProjectSet.{ProjectSet}
use Rattle.gate_config.specs.Document.{PipelineTexts, TenantTexts, jobs_among, pipelines_among, rules_among, sources_among}
use Rattle.gate_config.specs.Laws.{LookUpsAreOfTheDocument}
use Rattle.gate_config.specs.Lookups.{has_project, jobs_of, jobs_under, pipelines_of, projects_of, rules_of}
use Rattle.gate_config.specs.Texts.{texts_of_pipeline, texts_of_rule, texts_of_tenant}

-- ---- the projects that a tenant lists

at_conn : (o : Option (Option ProjectSet)) → option_map has_project (unwrap_or o None) ≡ unwrap_or (option_map (option_map has_project) o) None
at_conn None = refl
at_conn (Some projects) = refl

sources_at : (c : ℕ) (o : Option TenantSpec) →
    option_map has_project (option_and_then (λ (tenant : TenantSpec). unwrap_or (slice_get tenant.sources c) None) o)
    ≡ option_and_then (λ (tenant : TenantTexts). unwrap_or (slice_get tenant.sources c) None) (option_map texts_of_tenant o)
sources_at c None = refl
sources_at c (Some tenant) = at_conn (slice_get tenant.sources c) ∙ ap (λ o. unwrap_or o None) (sym (slice_get-map (option_map has_project) tenant.sources c))

pub projects_are : (config : Config) (t c : ℕ) → option_map has_project (projects_of config t c) ≡ sources_among (map texts_of_tenant config.tenants) t c
projects_are config t c =
    sources_at c (slice_get config.tenants t)
    ∙ ap (λ o. option_and_then (λ (tenant : TenantTexts). unwrap_or (slice_get tenant.sources c) None) o) (sym (slice_get-map texts_of_tenant config.tenants t))

pub is_there : (o : Option ProjectSet) → is_some o ≡ is_some (option_map has_project o)
is_there None = refl
is_there (Some projects) = refl

has_it : (project : List ℕ) (o : Option ProjectSet) →
    unwrap_or (option_map (λ (projects : ProjectSet). has_project projects project) o) false ≡ unwrap_or (option_map (λ (has : List ℕ → Bool). has project) (option_map has_project o)) false
has_it project None = refl
has_it project (Some projects) = refl

-- ---- pipelines and their rules

pipelines_at : (o : Option TenantSpec) →
    map texts_of_pipeline (unwrap_or (option_map (λ (tenant : TenantSpec). tenant.pipelines) o) [])
    ≡ unwrap_or (option_map (λ (tenant : TenantTexts). tenant.pipelines) (option_map texts_of_tenant o)) []
pipelines_at None = refl
pipelines_at (Some tenant) = refl

pub pipelines_are : (config : Config) (t : ℕ) → map texts_of_pipeline (pipelines_of config t) ≡ pipelines_among (map texts_of_tenant config.tenants) t
pipelines_are config t =
    pipelines_at (slice_get config.tenants t)
    ∙ ap (λ o. unwrap_or (option_map (λ (tenant : TenantTexts). tenant.pipelines) o) []) (sym (slice_get-map texts_of_tenant config.tenants t))

rules_there : (o : Option (List Rule)) → map texts_of_rule (unwrap_or o []) ≡ unwrap_or (option_map (map texts_of_rule) o) []
rules_there None = refl
rules_there (Some rules) = refl

rules_at : (c : ℕ) (o : Option PipelineSpec) →
    map texts_of_rule (unwrap_or (option_and_then (λ (pipeline : PipelineSpec). slice_get pipeline.rules c) o) [])
    ≡ unwrap_or (option_and_then (λ (pipeline : PipelineTexts). slice_get pipeline.rules c) (option_map texts_of_pipeline o)) []
rules_at c None = refl
rules_at c (Some pipeline) = rules_there (slice_get pipeline.rules c) ∙ ap (λ o. unwrap_or o []) (sym (slice_get-map (map texts_of_rule) pipeline.rules c))

pub rules_are : (config : Config) (t p c : ℕ) → map texts_of_rule (rules_of config t p c) ≡ rules_among (map texts_of_tenant config.tenants) t p c
rules_are config t p c =
    rules_at c (slice_get (pipelines_of config t) p)
    ∙ ap (λ o. unwrap_or (option_and_then (λ (pipeline : PipelineTexts). slice_get pipeline.rules c) o) [])
    (sym (slice_get-map texts_of_pipeline (pipelines_of config t) p) ∙ ap (λ pipelines. slice_get pipelines p) (pipelines_are config t))

-- ---- the jobs of a project

of_pipeline : (project : List ℕ) (o : Option Jobs) →
    unwrap_or (option_map (λ (jobs : Jobs). jobs_under jobs project) o) [] ≡ unwrap_or (option_map (λ (jobs : List ℕ → List (List ℕ)). jobs project) (option_map jobs_under o)) []
of_pipeline project None = refl
of_pipeline project (Some jobs) = refl

of_tenant : (p : ℕ) (project : List ℕ) (o : Option TenantSpec) →
    unwrap_or (option_map (λ (jobs : Jobs). jobs_under jobs project) (option_and_then (λ (tenant : TenantSpec). slice_get tenant.jobs p) o)) []
    ≡ unwrap_or (option_map (λ (jobs : List ℕ → List (List ℕ)). jobs project) (option_and_then (λ (tenant : TenantTexts). slice_get tenant.jobs p) (option_map texts_of_tenant o))) []
of_tenant p project None = refl
of_tenant p project (Some tenant) =
    of_pipeline project (slice_get tenant.jobs p)
    ∙ ap (λ o. unwrap_or (option_map (λ (jobs : List ℕ → List (List ℕ)). jobs project) o) []) (sym (slice_get-map jobs_under tenant.jobs p))

pub jobs_are : (config : Config) (t p : ℕ) (project : List ℕ) → jobs_of config t p project ≡ jobs_among (map texts_of_tenant config.tenants) t p project
jobs_are config t p project =
    of_tenant p project (slice_get config.tenants t)
    ∙ ap (λ o. unwrap_or (option_map (λ (jobs : List ℕ → List (List ℕ)). jobs project) (option_and_then (λ (tenant : TenantTexts). slice_get tenant.jobs p) o)) []) (sym (slice_get-map texts_of_tenant config.tenants t))

-- ---- all of them

pub look_ups_are : LookUpsAreOfTheDocument
look_ups_are document config h = record {
  lists = λ t c. is_there (projects_of config t c) ∙ ap is_some (projects_are config t c) ∙ ap (λ ts. is_some (sources_among ts t c)) h.tenants;
  belongs = λ t c project. has_it project (projects_of config t c) ∙ ap (λ o. unwrap_or (option_map (λ (has : List ℕ → Bool). has project) o) false) (projects_are config t c ∙ ap (λ ts. sources_among ts t c) h.tenants);
  pipelines = λ t. pipelines_are config t ∙ ap (λ ts. pipelines_among ts t) h.tenants;
  rules = λ t p c. rules_are config t p c ∙ ap (λ ts. rules_among ts t p c) h.tenants;
  jobs = λ t p project. jobs_are config t p project ∙ ap (λ ts. jobs_among ts t p project) h.tenants;
}
