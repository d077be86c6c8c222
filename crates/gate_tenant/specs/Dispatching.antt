-- Which items pipelines get of a tenant's items.
use Rattle.std.specs.Prelude.{◌≡◌, ℕ, List, [], ◌∷◌, ◌++◌, Bool, true, false, not, ◌||◌, ◌==◌, Option, Some, None, fold, get_or, length, map, option_map, replicate, slice_set, if◌then◌else◌}
use Rattle.std.specs.List.{filter, filter_map, list_all, list_any, range_with_len}
use Rattle.gate_record.specs.declared.ids.PipelineId.{PipelineId}
use Rattle.gate_record.specs.declared.transit.TenantItem.{TenantItem}
use Rattle.gate_record.specs.declared.transit.TenantItem.TheVariants as tenant
use Rattle.gate_record.specs.declared.transit.PipelineItem.{PipelineItem}
use Rattle.gate_record.specs.declared.transit.PipelineItem.TheVariants as pipeline
use Rattle.gate_config.specs.declared.config.Config.{Config}
use Rattle.gate_config.specs.declared.generations.Generations.{Generations}
use Rattle.gate_config.specs.Generations.{config_at}
use Rattle.gate_config.specs.Limits.{most_connections}
use Rattle.gate_config.specs.Lookups.{connections_of, lists, pipelines_of}
use Rattle.gate_config.specs.Selection.{selects_event}

abbrev pub pipeline_id : ℕ → PipelineId
pipeline_id p = record { 0 = p }

-- what pipeline p of tenant t gets of an item: the event, if the pipeline selects it by the event's generation
abbrev pub chosen_item : Generations → ℕ → ℕ → TenantItem → Option PipelineItem
chosen_item gens t p (tenant.Event s) = if selects_event (config_at gens s.generation) t p s.stamp.conn.0 s.event then Some (pipeline.Event s) else None
chosen_item gens t p (tenant.End conn) = None

-- The item is an event.
abbrev pub is_event : TenantItem → Bool
is_event (tenant.Event s) = true
is_event (tenant.End conn) = false

-- The item is the end mark of connection c.
abbrev pub is_end_of : ℕ → TenantItem → Bool
is_end_of c (tenant.Event s) = false
is_end_of c (tenant.End conn) = conn.0 == c

-- The list has the end mark of each connection that tenant t lists.
abbrev pub all_marked_in : Config → ℕ → List TenantItem → Bool
all_marked_in config t items = list_all (λ c. not (lists config t c) || list_any (is_end_of c) items) (range_with_len 0 (length (connections_of config)))

-- What pipeline p of tenant t gets of a list of items: the events that it selects, in order, followed by the end mark if the list
-- has the end mark of each connection that the tenant lists.
abbrev pub chosen : Generations → ℕ → ℕ → List TenantItem → List PipelineItem
chosen gens t p items = filter_map (chosen_item gens t p) items ++ (if all_marked_in gens.first t items then pipeline.End ∷ [] else [])

-- an item, addressed to pipeline p
abbrev pub for_pipeline : ℕ → PipelineItem → PipelineId × PipelineItem
for_pipeline p item = (pipeline_id p, item)

-- the numbers of the pipelines of tenant t
abbrev pub numbers_of : Config → ℕ → List ℕ
numbers_of config t = range_with_len 0 (length (pipelines_of config t))

-- what the pipelines of tenant t get of an item, each with its pipeline, in rising number of the pipelines
abbrev pub by_pipeline : Generations → ℕ → TenantItem → List (PipelineId × PipelineItem)
by_pipeline gens t item = filter_map (λ p. option_map (for_pipeline p) (chosen_item gens t p item)) (numbers_of gens.first t)

-- the end marks of all pipelines of tenant t, in rising number of the pipelines
abbrev pub end_marks : Config → ℕ → List (PipelineId × PipelineItem)
end_marks config t = map (λ p. for_pipeline p pipeline.End) (numbers_of config t)

-- The marks of connections, by number: whether the connection's end mark was matched. At the beginning none was.
abbrev pub no_marks : List Bool
no_marks = replicate most_connections false

abbrev pub with_mark : List Bool → TenantItem → List Bool
with_mark marks (tenant.Event s) = marks
with_mark marks (tenant.End conn) = slice_set marks conn.0 true

-- the marks after a list of items, where `marks` held before
abbrev pub marks_after : List TenantItem → List Bool → List Bool
marks_after items marks = fold with_mark marks items

-- Tenant t doesn't list connection c, or the connection's end mark is among these marks.
abbrev pub is_marked : Config → ℕ → List Bool → ℕ → Bool
is_marked config t marks c = not (lists config t c) || get_or marks c false

-- Each connection that tenant t lists has its end mark among these marks.
abbrev pub all_marked : Config → ℕ → List Bool → Bool
all_marked config t marks = list_all (is_marked config t marks) (range_with_len 0 (length (connections_of config)))

-- ---- one connection's part

-- the connection from which an item is
abbrev pub conn_of_item : TenantItem → ℕ
conn_of_item (tenant.Event s) = s.stamp.conn.0
conn_of_item (tenant.End d) = d.0

abbrev pub is_from : ℕ → TenantItem → Bool
is_from c item = conn_of_item item == c

-- The item is an event of connection c.
abbrev pub is_event_of : ℕ → PipelineItem → Bool
is_event_of c (pipeline.Event s) = s.stamp.conn.0 == c
is_event_of c pipeline.End = false

-- Among the items that a pipeline gets of its tenant's items, the events of a connection are what it gets of that connection's
-- items alone, end marks not counted.
abbrev pub OneConnectionAlone : Type 0
OneConnectionAlone = (gens : Generations) (t p c : ℕ) (items : List TenantItem) →
    filter (is_event_of c) (chosen gens t p items) ≡ filter_map (chosen_item gens t p) (filter (is_from c) items)
