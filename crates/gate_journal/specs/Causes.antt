-- Why build sets are cancelled.
use Rattle.std.specs.Prelude.{ℕ, List, codes}
use Rattle.gate_items.specs.declared.action.Action.{Action}
use Rattle.gate_items.specs.declared.action.Action.TheVariants as action
use Rattle.gate_items.specs.declared.action.Manage.TheVariants as manage
use Rattle.gate_journal.specs.declared.cause.CancelCause.{CancelCause}
use Rattle.gate_journal.specs.declared.cause.CancelCause.TheVariants.{Newer, Removed, Reset, Ahead}

abbrev pub cause_word : CancelCause → List ℕ
cause_word Newer = codes "newer"
cause_word Removed = codes "removed"
cause_word Reset = codes "reset"
cause_word Ahead = codes "ahead"

-- why an action cancels the build set of the item whose key it names; a result names no key, and cancels only build sets of items
-- behind
abbrev pub own_cause : Action → CancelCause
own_cause (action.Trigger key patchset jobs) = Newer
own_cause (action.Manage (manage.Dequeue key)) = Removed
own_cause (action.Manage (manage.Reset key)) = Reset
own_cause (action.Result result) = Ahead
