-- Texts whose numbers are bytes.
use Rattle.std.specs.Prelude.{◌≡◌, ◌<◌, ℕ, List, All, IfSome, slice_index}
use Rattle.gate_record.specs.declared.event.Event.{Event}
use Rattle.gate_record.specs.declared.record.Record.{Record}
use Rattle.gate_record.specs.declared.reading.Reading.TheVariants as reading
use Rattle.gate_record.specs.Reading.{reading_of}

-- Each number of the text is below 256, as in every `&str`.
abbrev pub AreBytes : List ℕ → Type 0
AreBytes text = (place : ℕ) → slice_index text place < 256

-- All texts of the event consist of bytes.
pub record HasBytes (event : Event) : Type 0 where
  pub kind : AreBytes event.kind
  pub project : IfSome event.project AreBytes
  pub branch : IfSome event.branch AreBytes
  pub refname : IfSome event.refname AreBytes
  pub newrev : IfSome event.newrev AreBytes
  pub comment : IfSome event.comment AreBytes
  pub username : IfSome event.username AreBytes
  pub email : IfSome event.email AreBytes
  pub approvals : All (λ approval. AreBytes approval.0) event.approvals

-- The texts of each event that a record is read as consist of bytes.
abbrev pub EventsHaveBytes : Type 0
EventsHaveBytes = (record' : Record) (event : Event) → reading_of record' ≡ reading.Event event → HasBytes event
