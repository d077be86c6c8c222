-- The state of a dispatch, and how its calls change it.
use Rattle.std.specs.Prelude.{ℕ, ◌-◌, List, [], ◌++◌, Bool, not, ◌&&◌, ◌||◌, ◌==◌, None, length, flat_map, if◌then◌else◌}
use Rattle.std.specs.List.{list_any}
use Rattle.std.specs.Vec.{vec_capacity}
use Rattle.gate_record.specs.declared.ids.PipelineId.{PipelineId}
use Rattle.gate_record.specs.declared.transit.TenantItem.{TenantItem}
use Rattle.gate_record.specs.Outboxes.{Unsent}
use Rattle.gate_record.specs.declared.transit.PipelineItem.{PipelineItem}
use Rattle.gate_config.specs.declared.config.Config.{Config}
use Rattle.gate_config.specs.declared.generations.Generations.{Generations}
use Rattle.gate_tenant.specs.Limits.{most_gathered}
use Rattle.gate_tenant.specs.declared.dispatch.Dispatch.{Dispatch}
use Rattle.gate_tenant.specs.Dispatching.{all_marked, by_pipeline, end_marks, is_event, marks_after, no_marks}

-- The parts of a state: the gathered items; the matched items that are to be given, each with its pipeline; the pipeline whose
-- item is out, until `given` or `ungiven` is called; and, by connection number, whether the connection's end mark was matched.
pub record State : Type 0 where
  pub gathered : List TenantItem
  pub outbox : Unsent PipelineId PipelineItem
  pub marks : List Bool

abbrev pub state_of : Dispatch → State
state_of dispatch = record { gathered = dispatch.gathered.items; outbox = dispatch.outbox; marks = dispatch.marks.seen }

-- the generations of the configuration by which the dispatch matches
abbrev pub gens_of : Dispatch → Generations
gens_of dispatch = dispatch.gens.now

-- the number of the dispatch's tenant
abbrev pub tenant_of : Dispatch → ℕ
tenant_of dispatch = dispatch.tenant.0

-- how many more items are gathered without memory
abbrev pub reserved_of : Dispatch → ℕ
reserved_of dispatch = vec_capacity dispatch.gathered - length dispatch.gathered.items

-- how many items may be gathered before the next matching
abbrev pub room_of : State → ℕ
room_of state = if length state.outbox.items == 0 then most_gathered - length state.gathered else 0

-- Each end mark was matched, and nothing is left to be given.
abbrev pub has_ended : Config → ℕ → State → Bool
has_ended config t state = all_marked config t state.marks && (length state.outbox.items == 0)

-- the state in which nothing was gathered yet; if the tenant lists no connection, the pipelines' end marks are to be given
abbrev pub first_state : Config → ℕ → State
first_state config t = record {
  gathered = [];
  outbox = record { items = if all_marked config t no_marks then end_marks config t else []; out = None };
  marks = no_marks;
}

-- The end marks of all connections are complete with these items, and weren't before.
abbrev pub are_last : Config → ℕ → List TenantItem → List Bool → Bool
are_last config t items marks = all_marked config t (marks_after items marks) && not (all_marked config t marks)

-- the end marks of all pipelines, if they are due after these items
abbrev pub last_marks : Config → ℕ → List TenantItem → List Bool → List (PipelineId × PipelineItem)
last_marks config t items marks = if are_last config t items marks then end_marks config t else []

-- Matching what is gathered needs memory: there is an event among it, or the pipelines' end marks are due.
abbrev pub needs_memory : Config → ℕ → State → Bool
needs_memory config t state = list_any is_event state.gathered || are_last config t state.gathered state.marks

-- the state after matching: the outbox has what the pipelines get of the gathered events, then their end marks if these are due
abbrev pub matched : Generations → ℕ → State → State
matched gens t state = record {
  gathered = [];
  outbox = record { items = flat_map (by_pipeline gens t) state.gathered ++ last_marks gens.first t state.gathered state.marks; out = None };
  marks = marks_after state.gathered state.marks;
}
