-- Items among which there is no event give the pipelines nothing.
use Rattle.std.proofs.Common.{◌≡◌, ◌∙◌, refl, ap, ℕ, List, [], ◌∷◌, ◌++◌, false, flat_map}
use Rattle.std.specs.List.{filter_map, list_any}
use Rattle.std.specs.Prelude.{option_map}
use Rattle.std.proofs.lemmas.List.Concat.{flat_map-cons}
use Rattle.gate_record.specs.declared.ids.ConnId.{ConnId}
use Rattle.gate_record.specs.declared.transit.TenantItem.{TenantItem}
use Rattle.gate_record.specs.declared.transit.TenantItem.TheVariants as tenant
use Rattle.gate_config.specs.declared.generations.Generations.{Generations}
use Rattle.gate_tenant.specs.Dispatching.{by_pipeline, chosen_item, for_pipeline, is_event, numbers_of}

module _ (gens : Generations) (t : ℕ) where
  of_mark : (conn : ConnId) (ps : List ℕ) → filter_map (λ p. option_map (for_pipeline p) (chosen_item gens t p (tenant.End conn))) ps ≡ []
  of_mark conn [] = refl
  of_mark conn (p ∷ ps) = of_mark conn ps

  pub nothing : (items : List TenantItem) → list_any is_event items ≡ false → flat_map (by_pipeline gens t) items ≡ []
  nothing [] e = refl
  nothing (tenant.Event s ∷ items) e = absurd (cc)
  nothing (tenant.End conn ∷ items) e =
      flat_map-cons (by_pipeline gens t) (tenant.End conn) items
      ∙ ap (λ front. front ++ flat_map (by_pipeline gens t) items) (of_mark conn (numbers_of gens.first t)) ∙ nothing items e
