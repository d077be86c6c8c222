-- What a record of Gerrit's `stream-events` is read as.
use Rattle.std.specs.Prelude.{List, [], ◌∷◌, ℕ, Option, Some, None, codes, option_and_then, if◌then◌else◌}
use Rattle.std.specs.Option.{option_or}
use Rattle.std.specs.Str.{bytes_eq}
use Rattle.serde_json.specs.Data.{Data, object}
use Rattle.gate_record.specs.Approvals.{approvals_of}
use Rattle.gate_record.specs.Json.{json_of, text_at, number_at}
use Rattle.gate_record.specs.declared.event.Event.{Event}
use Rattle.gate_record.specs.declared.record.Record.{Record}
use Rattle.gate_record.specs.declared.record.Record.TheVariants.{Line, Oversize}
use Rattle.gate_record.specs.declared.reading.Reading.{Reading}
use Rattle.gate_record.specs.declared.reading.Reading.TheVariants as reading
use Rattle.gate_record.specs.declared.reading.Why.TheVariants as why

-- `change.project` where it is a text, else `refUpdate.project`
abbrev pub project_of : Data → Option (List ℕ)
project_of value = option_or
    (text_at (codes "change" ∷ codes "project" ∷ []) value)
    (text_at (codes "refUpdate" ∷ codes "project" ∷ []) value)

-- the key of the account whose event an event of this type is
abbrev pub account_of : List ℕ → Option (List ℕ)
account_of kind =
    if bytes_eq kind (codes "patchset-created") then Some (codes "uploader")
    else (if bytes_eq kind (codes "comment-added") then Some (codes "author")
    else (if bytes_eq kind (codes "change-merged") then Some (codes "submitter")
    else (if bytes_eq kind (codes "ref-updated") then Some (codes "submitter")
    else (if bytes_eq kind (codes "change-abandoned") then Some (codes "abandoner")
    else (if bytes_eq kind (codes "change-restored") then Some (codes "restorer")
    else None)))))

-- a text of the account at this key
abbrev pub account_text : Option (List ℕ) → List ℕ → Data → Option (List ℕ)
account_text account key value = option_and_then (λ name. text_at (name ∷ key ∷ []) value) account

-- the event of a JSON object with this `type`, each field taken from its path
abbrev pub event_of : Data → List ℕ → Event
event_of value kind = record {
  kind = kind;
  project = project_of value;
  branch = text_at (codes "change" ∷ codes "branch" ∷ []) value;
  change = number_at (codes "change" ∷ codes "number" ∷ []) value;
  patchset = number_at (codes "patchSet" ∷ codes "number" ∷ []) value;
  refname = text_at (codes "refUpdate" ∷ codes "refName" ∷ []) value;
  newrev = text_at (codes "refUpdate" ∷ codes "newRev" ∷ []) value;
  comment = text_at (codes "comment" ∷ []) value;
  username = account_text (account_of kind) (codes "username") value;
  email = account_text (account_of kind) (codes "email") value;
  approvals = approvals_of value;
}

-- An object is an event if it has a text `type`.
abbrev pub reading_of_object : Data → Option (List ℕ) → Reading
reading_of_object value None = reading.Nothing why.NoType
reading_of_object value (Some kind) = reading.Event (event_of value kind)

abbrev pub reading_of_value : Data → Reading
reading_of_value (object members) = reading_of_object (object members) (text_at (codes "type" ∷ []) (object members))
reading_of_value other = reading.Nothing why.NotObject

abbrev pub reading_of_json : Option Data → Reading
reading_of_json None = reading.Nothing why.NotJson
reading_of_json (Some value) = reading_of_value value

-- What a record is read as: no event for the first cause that it has, else its event.
abbrev pub reading_of : Record → Reading
reading_of Oversize = reading.Nothing why.Oversize
reading_of (Line bytes) = reading_of_json (json_of bytes)
