-- The tests of `comparing` decide whether two configurations have the same structure.
use Rattle.std.proofs.Common.{◌≡◌, ◌∙◌, ℕ, List, [], ◌∷◌, Bool, true, false, cond, Option, Some, None, map, refl, sym, ap, subst, String, Global, string_bytes, inl, inr}
use Rattle.std.specs.Prelude.{◌&&◌, ◌⊎◌, is_some, option_map, unwrap_or}
use Rattle.std.specs.Bool.{Decides}
use Rattle.std.specs.BTreeMap.{get_by_text, is_at}
use Rattle.std.specs.Cmp.{booleans_Decides}
use Rattle.std.specs.Cmp.Lexicographic.{pointwise, slice_cmp}
use Rattle.std.specs.List.{list_all}
use Rattle.std.specs.Map.{keys_of, lookup}
use Rattle.std.specs.Ordering.{nat_cmp}
use Rattle.std.specs.Str.{bytes_eq}
use Rattle.std.proofs.lemmas.Bool.Decides.{Decides-and, Decides-like}
use Rattle.std.proofs.lemmas.Map.Text.{is_eq-slice_cmp}
use Rattle.std.proofs.lemmas.Simd.{map-map}
use Rattle.std.proofs.lemmas.Slice.Eq.{bytes_eq-Decides, slice_eq-Decides}
use Rattle.gate_record.specs.declared.ids.ManagerKind.{ManagerKind}
use Rattle.gate_record.specs.declared.ids.ManagerKind.TheVariants.{Independent, Dependent}
use Rattle.gate_config.specs.declared.config.Config.{Config}
use Rattle.gate_config.specs.declared.config.PipelineSpec.{PipelineSpec}
use Rattle.gate_config.specs.declared.config.TenantSpec.{TenantSpec}
use Rattle.gate_config.specs.declared.job_list.JobList.{JobList}
use Rattle.gate_config.specs.declared.jobs.Jobs.{Jobs}
use Rattle.gate_config.specs.declared.project_set.ProjectSet.{ProjectSet}
use Rattle.gate_config.specs.Inner.Comparing.{agree_at, is_alike, same_jobs, same_listing, same_manager, same_pipeline, same_tenant}
use Rattle.gate_config.specs.Inner.Structures.{structure_in}
use Rattle.gate_config.specs.Lookups.{has_project, jobs_under}
use Rattle.gate_config.specs.Structure.{TenantStructure, pipeline_structure, tenant_structure}
use Rattle.gate_config.specs.Texts.{texts_of_pipeline, texts_of_tenant}

-- ---- lists

abbrev first_of : {A : Type 0} → A → List A → A
first_of x [] = x
first_of x (y ∷ ys) = y

abbrev rest_of : {A : Type 0} → List A → List A
rest_of [] = []
rest_of (y ∷ ys) = ys

-- a test that decides whether two values are seen alike decides it of lists
pub lists_decide : {A B : Type 0} (same : A → A → Bool) (v : A → B) → ((a b : A) → Decides (same a b) (v a ≡ v b)) → (xs ys : List A) → Decides (pointwise same xs ys) (map v xs ≡ map v ys)
lists_decide same v decides [] [] = (λ _. refl, λ _. refl)
lists_decide same v decides [] (y ∷ ys) = (λ e. absurd (cc), λ e. absurd (cc))
lists_decide same v decides (x ∷ xs) [] = (λ e. absurd (cc), λ e. absurd (cc))
lists_decide same v decides (x ∷ xs) (y ∷ ys) =
    Decides-like (same x y && pointwise same xs ys) (λ h i. h.0 i ∷ h.1 i) (λ e. (ap (first_of (v x)) e, ap rest_of e))
    (Decides-and (same x y) (pointwise same xs ys) (decides x y) (lists_decide same v decides xs ys))

texts_decide : (xs ys : List (List ℕ)) → Decides (pointwise bytes_eq xs ys) (xs ≡ ys)
texts_decide xs ys = slice_eq-Decides bytes_eq-Decides xs ys (pointwise bytes_eq xs ys) refl

-- ---- what is listed

abbrev is_listing : Option ProjectSet → Bool
is_listing projects = is_some (option_map has_project projects)

listing_decides : (a b : Option ProjectSet) → Decides (same_listing a b) (is_listing a ≡ is_listing b)
listing_decides None None = booleans_Decides false false
listing_decides None (Some b) = booleans_Decides false true
listing_decides (Some a) None = booleans_Decides true false
listing_decides (Some a) (Some b) = booleans_Decides true true

-- ---- pipelines

abbrev is_independent : Option ManagerKind → Bool
is_independent None = false
is_independent (Some Independent) = true
is_independent (Some Dependent) = false

manager_decides : (a b : ManagerKind) → Decides (same_manager a b) (Some a ≡ Some b)
manager_decides Independent Independent = (λ _. refl, λ _. refl)
manager_decides Independent Dependent = (λ e. absurd (cc), λ e. sym (ap is_independent e))
manager_decides Dependent Independent = (λ e. absurd (cc), λ e. ap is_independent e)
manager_decides Dependent Dependent = (λ _. refl, λ _. refl)

pipeline_decides : (a b : PipelineSpec) → Decides (same_pipeline a b) (pipeline_structure (texts_of_pipeline a) ≡ pipeline_structure (texts_of_pipeline b))
pipeline_decides a b =
    Decides-like (same_pipeline a b) (λ h i. (h.0 i, h.1 i)) (λ e. (ap (λ p. p.0) e, ap (λ p. p.1) e))
    (Decides-and (bytes_eq a.name b.name) (same_manager a.manager b.manager) (bytes_eq-Decides a.name b.name) (manager_decides a.manager b.manager))

-- ---- jobs

abbrev is_name : List ℕ → String Global → Bool
is_name name = is_at (λ (key : String Global). slice_cmp nat_cmp name (string_bytes key))

both : (a b : Bool) → (a && b) ≡ true → (a ≡ true) × (b ≡ true)
both true b e = (refl, e)
both false b e = absurd (cc)

-- where two agree on all keys they agree on a name, or the name is none of these
module _ (f g : List ℕ → List (List ℕ)) where
  abbrev agree : String Global → Bool
  agree key = pointwise bytes_eq (f (string_bytes key)) (g (string_bytes key))

  agreed_here : (name : List ℕ) (key : String Global) → agree key ≡ true → is_name name key ≡ true → f name ≡ g name
  agreed_here name key e is =
      let same : name ≡ string_bytes key = (bytes_eq-Decides name (string_bytes key)).0 (sym (is_eq-slice_cmp name (string_bytes key)) ∙ is) in
      subst (λ n. f n ≡ g n) (sym same) ((texts_decide (f (string_bytes key)) (g (string_bytes key))).0 e)

  agreed : (name : List ℕ) (es : List (String Global × JobList)) → list_all agree (keys_of es) ≡ true → (lookup (is_name name) es ≡ None) ⊎ (f name ≡ g name)
  agreed name [] e = inl refl
  agreed name (x ∷ es) e =
      let parts = both (agree x.0) (list_all agree (keys_of es)) e in
      at (is_name name x.0) refl parts.0 (agreed name es parts.1)
    where
      at : (b : Bool) → is_name name x.0 ≡ b → agree x.0 ≡ true → (lookup (is_name name) es ≡ None) ⊎ (f name ≡ g name) → (lookup (is_name name) (x ∷ es) ≡ None) ⊎ (f name ≡ g name)
      at true is here rest = inr (agreed_here name x.0 here is)
      at false is here (inl none) = inl (ap (λ b. cond b (Some x.1) (lookup (is_name name) es)) is ∙ none)
      at false is here (inr same) = inr same

  always : (keys : List (String Global)) → ((name : List ℕ) → f name ≡ g name) → list_all agree keys ≡ true
  always [] h = refl
  always (key ∷ keys) h = λ i. (texts_decide (f (string_bytes key)) (g (string_bytes key))).1 (h (string_bytes key)) i && always keys h i

-- for each name both have the same jobs, or neither has any
joined : (a b : Jobs) (name : List ℕ) → (get_by_text a.lists name ≡ None) ⊎ (jobs_under a name ≡ jobs_under b name) → (get_by_text b.lists name ≡ None) ⊎ (jobs_under a name ≡ jobs_under b name) → jobs_under a name ≡ jobs_under b name
joined a b name (inr same) other = same
joined a b name (inl none) (inr same) = same
joined a b name (inl none) (inl no_other) = ap (λ o. unwrap_or o []) none ∙ sym (ap (λ o. unwrap_or o []) no_other)

jobs_decide : (a b : Jobs) → Decides (same_jobs a b) (jobs_under a ≡ jobs_under b)
jobs_decide a b = (
  λ e. let parts = both (agree_at a b a) (agree_at a b b) e in
      λ i name. joined a b name (agreed (jobs_under a) (jobs_under b) name a.lists.entries parts.0) (agreed (jobs_under a) (jobs_under b) name b.lists.entries parts.1) i,
  λ e i. always (jobs_under a) (jobs_under b) (keys_of a.lists.entries) (λ name j. e j name) i && always (jobs_under a) (jobs_under b) (keys_of b.lists.entries) (λ name j. e j name) i,
)

-- ---- tenants

abbrev of_tenant : TenantSpec → TenantStructure
of_tenant tenant = tenant_structure (texts_of_tenant tenant)

lists_are : (sources : List (Option ProjectSet)) → map is_some (map (option_map has_project) sources) ≡ map is_listing sources
lists_are sources = map-map is_some (option_map has_project) sources

abbrev of_pipeline : PipelineSpec → List ℕ × Option ManagerKind
of_pipeline pipeline = pipeline_structure (texts_of_pipeline pipeline)

pipelines_are : (pipelines : List PipelineSpec) → map pipeline_structure (map texts_of_pipeline pipelines) ≡ map of_pipeline pipelines
pipelines_are pipelines = map-map pipeline_structure texts_of_pipeline pipelines

-- the parts of two tenants are the same
abbrev HaveSameParts : TenantSpec → TenantSpec → Type 0
HaveSameParts a b =
    ((a.name ≡ b.name) × (map is_listing a.sources ≡ map is_listing b.sources)) × (map of_pipeline a.pipelines ≡ map of_pipeline b.pipelines) × (map jobs_under a.jobs ≡ map jobs_under b.jobs)

tenant_decides : (a b : TenantSpec) → Decides (same_tenant a b) (of_tenant a ≡ of_tenant b)
tenant_decides a b =
    Decides-like (same_tenant a b)
    (λ h i. record {
      name = h.0.0.0 i;
      lists = (lists_are a.sources ∙ h.0.0.1 ∙ sym (lists_are b.sources)) i;
      pipelines = (pipelines_are a.pipelines ∙ h.0.1 ∙ sym (pipelines_are b.pipelines)) i;
      jobs = h.1 i;
    })
    (λ e. (((ap (λ t. t.name) e, sym (lists_are a.sources) ∙ ap (λ t. t.lists) e ∙ lists_are b.sources), sym (pipelines_are a.pipelines) ∙ ap (λ t. t.pipelines) e ∙ pipelines_are b.pipelines), ap (λ t. t.jobs) e))
    (Decides-and _ _ (Decides-and _ _ (Decides-and _ _ (bytes_eq-Decides a.name b.name) (lists_decide same_listing is_listing listing_decides a.sources b.sources))
    (lists_decide same_pipeline of_pipeline pipeline_decides a.pipelines b.pipelines))
    (lists_decide same_jobs jobs_under jobs_decide a.jobs b.jobs))

-- ---- configurations

tenants_are : (tenants : List TenantSpec) → map tenant_structure (map texts_of_tenant tenants) ≡ map of_tenant tenants
tenants_are tenants = map-map tenant_structure texts_of_tenant tenants

alike_decides : (first other : Config) → Decides (is_alike first other) (structure_in other ≡ structure_in first)
alike_decides first other =
    Decides-like (is_alike first other)
    (λ h i. record { connections = (sym h.0) i; tenants = (tenants_are other.tenants ∙ sym h.1 ∙ sym (tenants_are first.tenants)) i })
    (λ e. (sym (ap (λ s. s.connections) e), sym (tenants_are first.tenants) ∙ sym (ap (λ s. s.tenants) e) ∙ tenants_are other.tenants))
    (Decides-and _ _ (texts_decide first.connections other.connections) (lists_decide same_tenant of_tenant tenant_decides first.tenants other.tenants))

pub alike_by : (first other : Config) (answer : Bool) → answer ≡ is_alike first other → Decides answer (structure_in other ≡ structure_in first)
alike_by first other answer e = subst (λ b. Decides b (structure_in other ≡ structure_in first)) (sym e) (alike_decides first other)
