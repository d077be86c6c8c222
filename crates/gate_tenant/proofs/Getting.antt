-- Items that no pipeline gets.
use Rattle.std.proofs.Common.{◌≡◌, refl, sym, ap, ◌∙◌, ℕ, List, [], ◌++◌, false, ◌&&◌, Some, None, length, option_map, if◌then◌else◌, append-nil}
use Rattle.std.specs.List.{list_any}
use Rattle.gate_record.specs.declared.ids.ConnId.{ConnId}
use Rattle.gate_record.specs.declared.transit.Stamped.{Stamped}
use Rattle.gate_record.specs.declared.transit.TenantItem.TheVariants as tenant
use Rattle.gate_record.specs.declared.transit.PipelineItem.TheVariants as pipeline
use Rattle.gate_rule.specs.Rule.{meets}
use Rattle.gate_config.specs.declared.generations.Generations.{Generations}
use Rattle.gate_config.specs.Generations.{config_at}
use Rattle.gate_config.specs.Lookups.{pipelines_of, rules_of}
use Rattle.gate_config.specs.Selection.{is_listed}
use Rattle.gate_tenant.specs.Dispatching.{by_pipeline, chosen_item, for_pipeline}
use Rattle.gate_tenant.proofs.Ranges.{none_of}

-- an event whose project isn't listed
pub unlisted_event : (gens : Generations) (t : ℕ) (s : Stamped) → is_listed (config_at gens s.generation) t s.stamp.conn.0 s.event.project ≡ false → by_pipeline gens t (tenant.Event s) ≡ []
unlisted_event gens t s e = none_of (λ p. option_map (for_pipeline p) (chosen_item gens t p (tenant.Event s)))
    (λ p. ap (λ b. option_map (for_pipeline p) (if b && list_any (λ rule. meets rule s.event) (rules_of (config_at gens s.generation) t p s.stamp.conn.0) then Some (pipeline.Event s) else None)) e)
    0 (length (pipelines_of gens.first t))

-- an end mark
pub end_mark : (gens : Generations) (t : ℕ) (conn : ConnId) → by_pipeline gens t (tenant.End conn) ≡ []
end_mark gens t conn = none_of (λ p. option_map (for_pipeline p) (chosen_item gens t p (tenant.End conn))) (λ p. refl) 0 (length (pipelines_of gens.first t))

pub nothing_more : {Y : Type 0} (xs ys : List Y) → ys ≡ [] → xs ≡ xs ++ ys
nothing_more xs ys e = sym (ap (λ zs. xs ++ zs) e ∙ append-nil xs)
