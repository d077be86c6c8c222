-- The build sets of a pipeline's items, as a journal keeps them.
use Rattle.std.specs.Prelude.{ℕ, List, Bool, Option, Some, None, if◌then◌else◌}
use Rattle.std.specs.List.{list_any}
use Rattle.gate_items.specs.declared.action.Action.{Action}
use Rattle.gate_items.specs.declared.action.Action.TheVariants as action
use Rattle.gate_items.specs.declared.action.Manage.TheVariants as manage
use Rattle.gate_items.specs.declared.item.Report.{Report}
use Rattle.gate_items.specs.declared.key.Key.{Key}
use Rattle.gate_items.specs.Keys.{is_same}

abbrev pub is_reported : List Report → Key → Bool
is_reported reports key = list_any (λ (report : Report). is_same report.key key) reports

-- A key's build set after an action that was applied and made these reports. `sets` are the build sets before the action, and
-- `next` is the first number that the action gave out.
abbrev pub keyed_after : (Key → Option ℕ) → ℕ → Action → List Report → Key → Option ℕ
keyed_after sets next (action.Trigger None patchset jobs) reports other = sets other
keyed_after sets next (action.Trigger (Some key) patchset jobs) reports other = if is_same key other then Some next else sets other
keyed_after sets next (action.Result result) reports other = if is_reported reports other then None else sets other
keyed_after sets next (action.Manage (manage.Dequeue key)) reports other = if is_same key other then None else sets other
keyed_after sets next (action.Manage (manage.Reset key)) reports other = if is_same key other then Some next else sets other
