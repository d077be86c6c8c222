-- What an event tells.
use Rattle.std.specs.Prelude.{◌&&◌, ℕ, List, replicate, Bool, false, codes, Option, Some, None}
use Rattle.std.specs.Str.{bytes_eq}
use Rattle.gate_record.specs.declared.event.Event.{Event}
use Rattle.gate_record.specs.Characters.{digit_zero}

-- The new revision is that of a deleted ref: forty zeros.
abbrev pub is_no_revision : Option (List ℕ) → Bool
is_no_revision None = false
is_no_revision (Some revision) = bytes_eq revision (replicate 40 digit_zero)

-- The event tells that a ref was deleted.
abbrev pub is_delete : Event → Bool
is_delete event = bytes_eq event.kind (codes "ref-updated") && is_no_revision event.newrev
