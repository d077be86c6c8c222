-- The action that a trigger event asks for.
use Rattle.std.specs.Prelude.{ℕ, ℤ, pos, List, [], Option, Some, None, unwrap_or}
use Rattle.gate_record.specs.declared.event.Event.{Event}
use Rattle.gate_record.specs.declared.ids.ConnId.{ConnId}
use Rattle.gate_record.specs.declared.ids.Stamp.{Stamp}
use Rattle.gate_config.specs.declared.config.Config.{Config}
use Rattle.gate_config.specs.Lookups.{jobs_of}
use Rattle.gate_items.specs.declared.action.Action.{Action}
use Rattle.gate_items.specs.declared.action.Action.TheVariants as action
use Rattle.gate_items.specs.declared.key.Key.{Key}
use Rattle.gate_items.specs.declared.key.Key.TheVariants as key

-- the project of an event; a missing one counts as the empty text
abbrev pub project_of : Event → List ℕ
project_of event = unwrap_or event.project []

-- the key of a ref's update, if both the ref and its new revision are there
abbrev pub ref_key : ConnId → List ℕ → Option (List ℕ) → Option (List ℕ) → Option Key
ref_key conn project (Some refname) (Some newrev) = Some (key.Ref conn project refname newrev)
ref_key conn project (Some refname) None = None
ref_key conn project None newrev = None

-- the key of an event: its change, or else its update of a ref
abbrev pub key_of : ConnId → Event → Option ℤ → Option Key
key_of conn event (Some number) = Some (key.Change conn number)
key_of conn event None = ref_key conn (project_of event) event.refname event.newrev

-- the patch set of an event with this key: 0 for a ref, and for a change without one
abbrev pub patchset_of : Event → Option Key → ℤ
patchset_of event (Some (key.Ref conn project refname newrev)) = pos 0
patchset_of event (Some (key.Change conn number)) = unwrap_or event.patchset (pos 0)
patchset_of event None = unwrap_or event.patchset (pos 0)

-- The trigger of an event for pipeline p of tenant t: the key and the patch set of the event, and the jobs that the pipeline runs
-- for the event's project.
abbrev pub trigger_of : Config → ℕ → ℕ → Stamp → Event → Action
trigger_of config t p stamp event =
    action.Trigger (key_of stamp.conn event event.change) (patchset_of event (key_of stamp.conn event event.change)) (jobs_of config t p (project_of event))
