-- What a pipeline has of what was made for all.
use Rattle.std.proofs.Common.{◌≡◌, ◌∙◌, refl, sym, ap, ℕ, zero, suc, ◌+◌, ◌<◌, List, [], ◌∷◌, ◌++◌, Bool, true, false, length, map, flat_map, Option, Some, None, option_map, if◌then◌else◌}
use Rattle.std.specs.List.{cons_option, filter_map, range_with_len}
use Rattle.std.proofs.lemmas.List.Elements.{filter_map-append}
use Rattle.std.specs.Option.{option_to_list}
use Rattle.gate_record.specs.declared.transit.TenantItem.{TenantItem}
use Rattle.gate_record.specs.declared.transit.PipelineItem.TheVariants as pipeline
use Rattle.gate_record.proofs.Addressed.{has_its_own}
use Rattle.gate_config.specs.declared.generations.Generations.{Generations}
use Rattle.gate_config.specs.Lookups.{pipelines_of}
use Rattle.gate_tenant.specs.Dispatching.{by_pipeline, chosen_item, end_marks, for_pipeline}
use Rattle.gate_tenant.specs.Histories.{item_for, items_for}

cons_option_is : {Y : Type 0} (o : Option Y) (ys : List Y) → cons_option o ys ≡ option_to_list o ++ ys
cons_option_is None ys = refl
cons_option_is (Some y) ys = refl

-- of one item
of_item : (gens : Generations) (t p : ℕ) (item : TenantItem) → p < length (pipelines_of gens.first t) → items_for p (by_pipeline gens t item) ≡ option_to_list (chosen_item gens t p item)
of_item gens t p item h = has_its_own for_pipeline item_for (λ n m item. refl) (λ q. chosen_item gens t q item) p (length (pipelines_of gens.first t)) h

-- of a list of items
pub of_items : (gens : Generations) (t p : ℕ) (items : List TenantItem) → p < length (pipelines_of gens.first t) → items_for p (flat_map (by_pipeline gens t) items) ≡ filter_map (chosen_item gens t p) items
of_items gens t p [] h = refl
of_items gens t p (item ∷ items) h =
    filter_map-append (item_for p) (by_pipeline gens t item) (flat_map (by_pipeline gens t) items)
    ∙ ap (λ xs. xs ++ items_for p (flat_map (by_pipeline gens t) items)) (of_item gens t p item h)
    ∙ ap (λ xs. option_to_list (chosen_item gens t p item) ++ xs) (of_items gens t p items h)
    ∙ sym (cons_option_is (chosen_item gens t p item) (filter_map (chosen_item gens t p) items))

each_has : (a n : ℕ) → map (λ p. for_pipeline p pipeline.End) (range_with_len a n) ≡ filter_map (λ q. option_map (for_pipeline q) (Some pipeline.End)) (range_with_len a n)
each_has a zero = refl
each_has a (suc n) = ap (λ xs. for_pipeline a pipeline.End ∷ xs) (each_has (a + 1) n)

-- of the end marks, if they are there
pub of_marks : (gens : Generations) (t p : ℕ) (there : Bool) → p < length (pipelines_of gens.first t) → items_for p (if there then end_marks gens.first t else []) ≡ (if there then pipeline.End ∷ [] else [])
of_marks gens t p false h = refl
of_marks gens t p true h =
    ap (items_for p) (each_has 0 (length (pipelines_of gens.first t)))
    ∙ has_its_own for_pipeline item_for (λ n m item. refl) (λ q. Some pipeline.End) p (length (pipelines_of gens.first t)) h
