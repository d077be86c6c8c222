-- What a journal is told, and the text that it writes.
use Rattle.std.specs.Prelude.{◌≡◌, ◌==◌, ◌&&◌, ◌<◌, ℕ, List, [], ◌∷◌, ◌++◌, Bool, Option, Some, None, if◌then◌else◌, length, option_map, slice_get, unwrap_or}
use Rattle.std.specs.List.{filter_map}
use Rattle.gate_record.specs.declared.ids.ManagerKind.{ManagerKind}
use Rattle.gate_record.specs.declared.ids.ManagerKind.TheVariants.{Independent}
use Rattle.gate_record.specs.declared.ids.Stamp.{Stamp}
use Rattle.gate_config.specs.declared.config.Config.{Config}
use Rattle.gate_config.specs.declared.config.PipelineSpec.{PipelineSpec}
use Rattle.gate_config.specs.Lookups.{pipelines_of}
use Rattle.gate_items.specs.declared.action.Action.{Action}
use Rattle.gate_items.specs.declared.action.Outcome.{Outcome}
use Rattle.gate_items.specs.Machine.{State, apply}
use Rattle.gate_journal.specs.Facts.{action_lines}
use Rattle.gate_journal.specs.Follows.{items_after}
use Rattle.gate_journal.specs.Lines.{end_line, start_lines}

-- what a journal is told of pipeline p of tenant t
pub data Told : Type 0 where
  -- the pipeline has processed this action; the stamp is that of a trigger event
  acts : (t p : ℕ) → Option Stamp → Action → Told
  -- the pipeline's worker returns, or the script is over; the pipeline is finished or isn't, and has so many items
  ends : (t p : ℕ) → Bool → ℕ → Told

abbrev pub action_of : ℕ → ℕ → Told → Option Action
action_of t p (acts u q stamp action) = if (t == u) && (p == q) then Some action else None
action_of t p (ends u q finished items) = None

-- the actions of pipeline p of tenant t, in order
abbrev pub actions_of : ℕ → ℕ → List Told → List Action
actions_of t p told = filter_map (action_of t p) told

abbrev pub manager_of : Config → ℕ → ℕ → ManagerKind
manager_of config t p = unwrap_or (option_map (λ (pipeline : PipelineSpec). pipeline.manager) (slice_get (pipelines_of config t) p)) Independent

-- the items of pipeline p of tenant t after what was told
abbrev pub items_told : Config → List Told → ℕ → ℕ → State
items_told config told t p = items_after (manager_of config t p) (actions_of t p told)

-- What is told is true: the configuration has this pipeline, and the action has this outcome and leaves these items.
pub record IsTrue (config : Config) (told : List Told) (t p : ℕ) (action : Action) (outcome : Outcome) (items : State) : Type 0 where
  pub there : p < length (pipelines_of config t)
  pub happened : (items, outcome) ≡ apply (items_told config told t p) action

-- the lines of what is told next
abbrev pub next_lines : Config → List Told → Told → List ℕ
next_lines config told (acts t p stamp action) = action_lines config t p (items_told config told t p) stamp action (apply (items_told config told t p) action).1 (apply (items_told config told t p) action).0
next_lines config told (ends t p finished items) = end_line config t p finished items

-- the lines of what was told after something else, one after another
abbrev pub lines_after : Config → List Told → List Told → List ℕ
lines_after config past [] = []
lines_after config past (next ∷ told) = next_lines config past next ++ lines_after config (past ++ next ∷ []) told

-- what a journal writes in all
abbrev pub journal_text : Config → List Told → List ℕ
journal_text config told = start_lines ++ lines_after config [] told
