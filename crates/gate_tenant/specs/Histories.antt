-- Histories of calls of a dispatch, and the laws about each of them.
use Rattle.std.specs.Prelude.{◌≡◌, ◌<◌, ◌==◌, ℕ, List, [], ◌∷◌, ◌++◌, true, false, Option, Some, None, length, if◌then◌else◌}
use Rattle.std.specs.List.{filter_map}
use Rattle.std.specs.Option.{option_to_list}
use Rattle.gate_record.specs.declared.ids.PipelineId.{PipelineId}
use Rattle.gate_record.specs.declared.transit.TenantItem.{TenantItem}
use Rattle.gate_record.specs.declared.transit.PipelineItem.{PipelineItem}
use Rattle.gate_config.specs.declared.config.Config.{Config}
use Rattle.gate_config.specs.declared.generations.Generations.{Generations}
use Rattle.gate_config.specs.Lookups.{pipelines_of}
use Rattle.gate_tenant.specs.Dispatching.{chosen}
use Rattle.gate_record.specs.Outboxes.{put_back}
use Rattle.gate_tenant.specs.States.{State, first_state, has_ended, matched, room_of}

-- The state; all items that were gathered so far (`taken`), matched so far (`done`) and given so far; and the item that is out,
-- with its pipeline.
pub record History : Type 0 where
  pub state : State
  pub taken : List TenantItem
  pub done : List TenantItem
  pub given : List (PipelineId × PipelineItem)
  pub out : Option (PipelineId × PipelineItem)

abbrev pub beginning : Config → ℕ → History
beginning config t = record { state = first_state config t; taken = []; done = []; given = []; out = None }

-- Histories of calls of which none was refused memory. An item that isn't given comes back as it was moved out.
pub data Happens (gens : Generations) (t : ℕ) : History → Type 0 where
  begins : Happens gens t (beginning gens.first t)
  gathers : {h : History} (item : TenantItem) → Happens gens t h → h.out ≡ None → 0 < room_of h.state → has_ended gens.first t h.state ≡ false →
      Happens gens t (record h { state = record h.state { gathered = h.state.gathered ++ item ∷ [] }; taken = h.taken ++ item ∷ [] })
  matches : {h : History} → Happens gens t h → (length h.state.gathered == 0) ≡ false →
      Happens gens t (record h { state = matched gens t h.state; done = h.done ++ h.state.gathered })
  moves : {h : History} {first : PipelineId × PipelineItem} {items : List (PipelineId × PipelineItem)} → Happens gens t h → h.out ≡ None → h.state.outbox.items ≡ first ∷ items →
      Happens gens t (record h { state = record h.state { outbox = record { items = items; out = Some first.0 } }; out = Some first })
  gives : {h : History} {item : PipelineId × PipelineItem} → Happens gens t h → h.out ≡ Some item →
      Happens gens t (record h { state = record h.state { outbox = record h.state.outbox { out = None } }; given = h.given ++ item ∷ []; out = None })
  comes_back : {h : History} {item : PipelineId × PipelineItem} → Happens gens t h → h.out ≡ Some item →
      Happens gens t (record h { state = record h.state { outbox = put_back item.1 (Some item.0) h.state.outbox }; out = None })

abbrev pub item_for : ℕ → PipelineId × PipelineItem → Option PipelineItem
item_for p item = if item.0.0 == p then Some item.1 else None

-- the items of a list that are addressed to pipeline p
abbrev pub items_for : ℕ → List (PipelineId × PipelineItem) → List PipelineItem
items_for p items = filter_map (item_for p) items

-- What was given to a pipeline, followed by its item that is out and by what the outbox holds for it, is what the pipeline gets of
-- all that was matched.
abbrev pub EachGetsItsOwn : Type 0
EachGetsItsOwn = (gens : Generations) (t p : ℕ) (h : History) → p < length (pipelines_of gens.first t) → Happens gens t h →
    items_for p (h.given ++ (option_to_list h.out ++ h.state.outbox.items)) ≡ chosen gens t p h.done

-- What was matched, followed by what is still gathered, is all that was ever gathered.
abbrev pub NothingIsLost : Type 0
NothingIsLost = (gens : Generations) (t : ℕ) (h : History) → Happens gens t h → h.done ++ h.state.gathered ≡ h.taken

-- Once the dispatch has ended, each pipeline was given what it gets of all that was ever gathered.
abbrev pub AllWasGiven : Type 0
AllWasGiven = (gens : Generations) (t p : ℕ) (h : History) → p < length (pipelines_of gens.first t) → Happens gens t h → h.out ≡ None → has_ended gens.first t h.state ≡ true →
    items_for p h.given ≡ chosen gens t p h.taken
