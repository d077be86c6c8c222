-- Gathered items as the rows of a batch, and what a row gets by the masks of the batch.
use Rattle.std.specs.Prelude.{ℕ, ◌==◌, List, [], ◌∷◌, flat_map, get_or, slice_get, unwrap_or, Option, Some, None, if◌then◌else◌}
use Rattle.std.specs.List.{filter_map}
use Rattle.gate_record.specs.declared.event.Event.{Event}
use Rattle.gate_record.specs.declared.ids.PipelineId.{PipelineId}
use Rattle.gate_record.specs.declared.transit.PipelineItem.{PipelineItem}
use Rattle.gate_record.specs.declared.transit.PipelineItem.TheVariants as pipeline
use Rattle.gate_record.specs.declared.transit.Stamped.{Stamped}
use Rattle.gate_record.specs.declared.transit.TenantItem.{TenantItem}
use Rattle.gate_record.specs.declared.transit.TenantItem.TheVariants as tenant
use Rattle.gate_lanes.specs.declared.TheConstants.{MARKED}
use Rattle.gate_config.specs.declared.config.Config.{Config}
use Rattle.gate_tenant.specs.Dispatching.{for_pipeline, numbers_of}

-- the event of an item; `conns_in` is the connection of that event, and `gens_in` its generation
abbrev pub events_in : TenantItem → List Event
events_in (tenant.Event s) = s.event ∷ []
events_in (tenant.End conn) = []

abbrev pub conns_in : TenantItem → List ℕ
conns_in (tenant.Event s) = s.stamp.conn.0 ∷ []
conns_in (tenant.End conn) = []

abbrev pub gens_in : TenantItem → List ℕ
gens_in (tenant.Event s) = s.generation ∷ []
gens_in (tenant.End conn) = []

-- the event of an item, paired with its generation and its connection; `rows_of` lists these of several items
abbrev pub row_in : TenantItem → List ((ℕ × ℕ) × Event)
row_in (tenant.Event s) = ((s.generation, s.stamp.conn.0), s.event) ∷ []
row_in (tenant.End conn) = []

abbrev pub rows_of : List TenantItem → List ((ℕ × ℕ) × Event)
rows_of items = flat_map row_in items

-- the word of a row in the mask of pipeline p
abbrev pub word_of : List (List ℕ) → ℕ → ℕ → ℕ
word_of masks p row = get_or (unwrap_or (slice_get masks p) []) row 0

abbrev pub marked_item : List (List ℕ) → ℕ → Stamped → ℕ → Option (PipelineId × PipelineItem)
marked_item masks row s p = if word_of masks p row == MARKED then Some (for_pipeline p (pipeline.Event s)) else None

-- an event, for each pipeline of tenant t whose mask marks the event's row
abbrev pub by_masks : Config → ℕ → List (List ℕ) → ℕ → Stamped → List (PipelineId × PipelineItem)
by_masks config t masks row s = filter_map (marked_item masks row s) (numbers_of config t)

-- what the pipelines get of an item by the masks; if the item is an event, its row is `row`
abbrev pub given_by : Config → ℕ → List (List ℕ) → ℕ → TenantItem → List (PipelineId × PipelineItem)
given_by config t masks row (tenant.Event s) = by_masks config t masks row s
given_by config t masks row (tenant.End conn) = []
