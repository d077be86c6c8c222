-- The lines of an action, part by part, which private contracts and proofs cite.
use Rattle.std.specs.Prelude.{◌+◌, ◌==◌, ℕ, List, [], ◌∷◌, ◌++◌, Option, None, flat_map, if◌then◌else◌}
use Rattle.gate_record.specs.declared.ids.Stamp.{Stamp}
use Rattle.gate_config.specs.declared.config.Config.{Config}
use Rattle.gate_items.specs.declared.action.Action.{Action}
use Rattle.gate_items.specs.declared.action.Action.TheVariants as action
use Rattle.gate_items.specs.declared.item.QueueItem.{QueueItem}
use Rattle.gate_journal.specs.Causes.{own_cause}
use Rattle.gate_journal.specs.declared.cause.CancelCause.TheVariants.{Ahead}
use Rattle.gate_journal.specs.Lines.{begin_line, cancel_line, result_line}

-- the line of an action that is a result
abbrev pub result_lines : Config → ℕ → ℕ → Action → List ℕ
result_lines config t p (action.Result result) = result_line config t p result
result_lines config t p (action.Trigger key patchset jobs) = []
result_lines config t p (action.Manage manage) = []

-- The lines of the build sets that an action cancels. The first is that of the item whose key the action names, and the others are those of
-- items behind it.
abbrev pub cancel_lines : Config → ℕ → ℕ → Action → List ℕ → List ℕ
cancel_lines config t p action [] = []
cancel_lines config t p action (set ∷ sets) = cancel_line config t p (own_cause action) set ++ flat_map (cancel_line config t p Ahead) sets

-- The lines of the items that begin. A trigger's own item is the last, and its line has the record of the trigger.
abbrev pub begin_lines : Config → ℕ → ℕ → Option Stamp → ℕ → List QueueItem → List ℕ
begin_lines config t p stamp next items = flat_map (λ (item : QueueItem). begin_line config t p (if item.set + 1 == next then stamp else None) item) items
