-- Why a connection is chosen by itself.
use Rattle.std.proofs.Common.{◌≡◌, ◌∙◌, ap, refl, sym, ℕ, ◌==◌, List, [], ◌∷◌, ◌++◌, Bool, true, false, cond, Some, None, append-nil, if◌then◌else◌}
use Rattle.std.specs.List.{cons_option, filter, filter_map}
use Rattle.std.proofs.lemmas.List.Elements.{filter-append}
use Rattle.gate_record.specs.declared.transit.Stamped.{Stamped}
use Rattle.gate_record.specs.declared.transit.TenantItem.{TenantItem}
use Rattle.gate_record.specs.declared.transit.TenantItem.TheVariants as tenant
use Rattle.gate_record.specs.declared.transit.PipelineItem.{PipelineItem}
use Rattle.gate_record.specs.declared.transit.PipelineItem.TheVariants as pipeline
use Rattle.gate_config.specs.declared.generations.Generations.{Generations}
use Rattle.gate_config.specs.Generations.{config_at}
use Rattle.gate_config.specs.Selection.{selects_event}
use Rattle.gate_tenant.specs.Dispatching.{OneConnectionAlone, chosen_item, all_marked_in, is_event_of, is_from}

module _ (gens : Generations) (t p c : ℕ) where
  -- an event stays where it is this connection's, and falls away where it isn't
  by_event : (s : Stamped) (own picked : Bool) (xs ys : List PipelineItem) → (s.stamp.conn.0 == c) ≡ own → filter (is_event_of c) xs ≡ ys →
      filter (is_event_of c) (cons_option (cond picked (Some (pipeline.Event s)) None) xs) ≡ cond own (cons_option (cond picked (Some (pipeline.Event s)) None) ys) ys
  by_event s true true xs ys e same = (λ i. cond (e i) (pipeline.Event s ∷ filter (is_event_of c) xs) (filter (is_event_of c) xs)) ∙ ap (λ zs. pipeline.Event s ∷ zs) same
  by_event s false true xs ys e same = (λ i. cond (e i) (pipeline.Event s ∷ filter (is_event_of c) xs) (filter (is_event_of c) xs)) ∙ same
  by_event s true false xs ys e same = same
  by_event s false false xs ys e same = same

  by_own : (own : Bool) (item : TenantItem) (items : List TenantItem) → cond own (cons_option (chosen_item gens t p item) (filter_map (chosen_item gens t p) items)) (filter_map (chosen_item gens t p) items)
      ≡ filter_map (chosen_item gens t p) (cond own (item ∷ items) items)
  by_own true item items = refl
  by_own false item items = refl

  by_mark : (own : Bool) (item : TenantItem) (items : List TenantItem) → chosen_item gens t p item ≡ None → filter_map (chosen_item gens t p) items
      ≡ filter_map (chosen_item gens t p) (cond own (item ∷ items) items)
  by_mark true item items e = λ i. cons_option (sym e i) (filter_map (chosen_item gens t p) items)
  by_mark false item items e = refl

  events : (items : List TenantItem) → filter (is_event_of c) (filter_map (chosen_item gens t p) items) ≡ filter_map (chosen_item gens t p) (filter (is_from c) items)
  events [] = refl
  events (tenant.Event s ∷ items) =
      by_event s (s.stamp.conn.0 == c) (selects_event (config_at gens s.generation) t p s.stamp.conn.0 s.event) (filter_map (chosen_item gens t p) items) _ refl (events items)
      ∙ by_own (s.stamp.conn.0 == c) (tenant.Event s) (filter (is_from c) items)
  events (tenant.End d ∷ items) = events items ∙ by_mark (d.0 == c) (tenant.End d) (filter (is_from c) items) refl

  no_marks : (b : Bool) → filter (is_event_of c) (if b then pipeline.End ∷ [] else []) ≡ []
  no_marks true = refl
  no_marks false = refl

pub one_connection_alone : OneConnectionAlone
one_connection_alone gens t p c items =
    filter-append (is_event_of c) (filter_map (chosen_item gens t p) items) (if all_marked_in gens.first t items then pipeline.End ∷ [] else [])
    ∙ ap (λ rest. filter (is_event_of c) (filter_map (chosen_item gens t p) items) ++ rest) (no_marks gens t p c (all_marked_in gens.first t items))
    ∙ append-nil (filter (is_event_of c) (filter_map (chosen_item gens t p) items))
    ∙ events gens t p c items
