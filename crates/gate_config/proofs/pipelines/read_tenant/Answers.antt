use Rattle.std.proofs.Common.{◌≡◌, ◌∙◌, ℕ, List, [], ◌∷◌, Option, Some, map, codes, ap, subst, sym}
use Rattle.serde_json.specs.Data.{Data}
use Rattle.serde_json.specs.View.{view}
use Rattle.gate_config.specs.Checks.{all_items_checks, list_place}
use Rattle.gate_config.specs.Document.{config_items, jobs_in, pipeline_items, pipeline_names, pipeline_texts, project_items, projects_under, tenant_name}
use Rattle.gate_config.specs.Faults.{Check, Asks}
use Rattle.gate_config.specs.Inner.Faults.{HasFault, HasPassed}
use Rattle.gate_config.specs.Parts.{is_fine, is_list, items_of, optional}
use Rattle.gate_config.specs.Inner.Steps.{steps_of}
use Rattle.gate_config.specs.Places.{below, whole}
use Rattle.gate_config.specs.Texts.{texts_of_pipeline}
use Rattle.gate_config.specs.declared.path.Step.{Step}
use Rattle.gate_config.specs.declared.fault.ConfigFault.{ConfigFault}
use Rattle.gate_config.specs.declared.fault.ConfigFault.TheVariants.{Shape}
use Rattle.gate_config.proofs.Faults.{exit, fault_later, passed_more}
use Rattle.gate_config.proofs.WithinLimits.{few_pipelines, passed_pipelines}
use Rattle.gate_config.proofs.pipelines.read_tenant.Goals as goal

-- what was looked up by the tenant's name and place, said of the entry
module _ (config entry : Data) (name : List ℕ) (place : List Step) (named : name ≡ tenant_name entry) (placed : place ≡ list_place name) (found : Option Data) (looked : found ≡ optional name config) where
  here : place ≡ list_place (tenant_name entry)
  here = placed ∙ ap list_place named

  value : found ≡ optional (tenant_name entry) config
  value = looked ∙ ap (λ n. optional n config) named

  list_passed : HasPassed (Asks (is_fine is_list found) (Shape place) ∷ []) → HasPassed (Asks (is_fine is_list (optional (tenant_name entry) config)) (Shape (list_place (tenant_name entry))) ∷ [])
  list_passed p = record { all = (ap (is_fine is_list) (sym value) ∙ p.all.0, tt) }

  items : (values : List Data) → values ≡ items_of found → values ≡ config_items (Some config) (tenant_name entry)
  items values e = e ∙ ap items_of value

  all : (connections : List (List ℕ)) (values : List Data) → values ≡ items_of found → all_items_checks connections place values ≡ all_items_checks connections (list_place (tenant_name entry)) (config_items (Some config) (tenant_name entry))
  all connections values e i = all_items_checks connections (here i) (items values e i)

placed_at : {lists place : List Step} {name : List ℕ} → place ≡ below lists name → lists ≡ below whole (codes "config") → place ≡ list_place name
placed_at {name = name} p l = p ∙ ap (λ lists. below lists name) l

same_fault : {xs ys : List Check} {found : ConfigFault} → xs ≡ ys → HasFault xs found → HasFault ys found
same_fault {xs} {ys} {found} e h = subst (λ checks. HasFault checks found) e h

pub invariant_of-result : goal.invariant_of-result
invariant_of-result c = record {
  few_pipelines = few_pipelines c.args.connections.now (steps_of c.member-place.result) (map view c.in_ok-items.items.now) texts_of_pipeline (pipeline_texts c.args.connections.now) c.in_ok-pipelines.pipelines
      (passed_pipelines _ _ _ c.in_ok-pipelines.ensures.0) c.in_ok-pipelines.ensures.1.0;
}

pub returns-in_err-pipelines : goal.returns-in_err-pipelines
returns-in_err-pipelines c =
    let config = view c.args.config.now in
    let entry = view c.args.entry.now.value.now in
    let name = c.tenant_name-name.result.now in
    exit _ c.from_residual-in_err-pipelines.result c.from_residual-in_err-pipelines.ensures.1
    (fault_later (list_passed config entry name (steps_of c.member-place.result) c.tenant_name-name.ensures (placed_at c.member-place.ensures c.member-lists.ensures) _ c.member.ensures c.in_ok-items.ensures.0)
    (same_fault
    (all config entry name (steps_of c.member-place.result) c.tenant_name-name.ensures (placed_at c.member-place.ensures c.member-lists.ensures) _ c.member.ensures c.args.connections.now (map view c.in_ok-items.items.now) c.in_ok-items.ensures.1)
    c.in_err-pipelines.ensures))

pub returns : goal.returns
returns c =
    let config = view c.args.config.now in
    let entry = view c.args.entry.now.value.now in
    let name = c.tenant_name-name.result.now in
    let values : map view c.in_ok-items.items.now ≡ config_items (Some config) (tenant_name entry) =
    items config entry name (steps_of c.member-place.result) c.tenant_name-name.ensures (placed_at c.member-place.ensures c.member-lists.ensures) _ c.member.ensures (map view c.in_ok-items.items.now) c.in_ok-items.ensures.1 in (
      passed_more (list_passed config entry name (steps_of c.member-place.result) c.tenant_name-name.ensures (placed_at c.member-place.ensures c.member-lists.ensures) _ c.member.ensures c.in_ok-items.ensures.0)
          (subst HasPassed
          (all config entry name (steps_of c.member-place.result) c.tenant_name-name.ensures (placed_at c.member-place.ensures c.member-lists.ensures) _ c.member.ensures c.args.connections.now (map view c.in_ok-items.items.now) c.in_ok-items.ensures.1)
          c.in_ok-pipelines.ensures.0),
      λ i. record {
        name = (c.in_ok-copy.ensures ∙ c.tenant_name-name.ensures) i;
        sources = (c.in_ok-read_sources.ensures ∙ ap (λ t. map (projects_under t) c.args.connections.now) c.tenant_of.ensures) i;
        pipelines = (c.in_ok-pipelines.ensures.1.0 ∙ ap (λ ds. map (pipeline_texts c.args.connections.now) (pipeline_items ds)) values) i;
        jobs = (c.in_ok-pipelines.ensures.1.1 ∙ ap (λ ds. map (jobs_in (project_items ds)) (pipeline_names ds)) values) i;
      },
    )
