-- Which events of a batch the pipelines of a tenant select.
use Rattle.std.specs.Prelude.{ℕ, List, length, map}
use Rattle.std.specs.List.{range_with_len}
use Rattle.gate_record.specs.declared.event.Event.{Event}
use Rattle.gate_config.specs.declared.generations.Generations.{Generations}
use Rattle.gate_config.specs.Generations.{config_at}
use Rattle.gate_config.specs.Lookups.{pipelines_of}
use Rattle.gate_config.specs.Selection.{selects_event}
use Rattle.gate_lanes.specs.Masks.{mark_if}
use Rattle.gate_match.specs.declared.program.Program.{Program}

abbrev pub gens_of : Program → Generations
gens_of program = program.gens.now

abbrev pub tenant_of : Program → ℕ
tenant_of program = program.tenant.0

-- The mask of pipeline p of tenant t. Each row is an event, paired with the generation in force at it and its connection. The
-- word of a row is all ones if the pipeline selects the event by that generation, and else 0.
abbrev pub mask_of : Generations → ℕ → ℕ → List ((ℕ × ℕ) × Event) → List ℕ
mask_of gens t p batch = map (λ row. mark_if (selects_event (config_at gens row.0.0) t p row.0.1 row.1)) batch

-- the masks of all pipelines of the tenant, by number
abbrev pub masks_of : Generations → ℕ → List ((ℕ × ℕ) × Event) → List (List ℕ)
masks_of gens t batch = map (λ p. mask_of gens t p batch) (range_with_len 0 (length (pipelines_of gens.first t)))
