-- What a reader needs to begin, and what it has done when it returns.
use Rattle.std.specs.Prelude.{◌≡◌, ◌<◌, ◌-◌, ◌≤◌, ◌^◌, ℕ, List, Bool, true, false, is_some, All, length, map}
use Rattle.gate_record.specs.declared.record.Record.{Record}
use Rattle.gate_source.specs.Stops.{Note, IsNoteOf}
use Rattle.gate_report.specs.declared.report.EndCause.{EndCause}
use Rattle.gate_report.specs.declared.report.EndCause.TheVariants.{Unclosed, Ended, Stopped, Failed, Memory}
use Rattle.gate_source.specs.Feeds.{AreAll, Told, AreFirst}
use Rattle.gate_record.specs.declared.transit.ConnEntry.{ConnEntry}
use Rattle.gate_record.specs.Entries.{AreEntriesOf, beside}
use Rattle.gate_queue.specs.Seats.{SenderSeat, Shape}
use Rattle.gate_source.specs.Sources.{NeverFalls}
use Rattle.gate_run_reader.specs.declared.running.Renewal.{Renewal}
use Rattle.gate_run_reader.specs.Asked.{AreKnown}
use Rattle.gate_run_threads.specs.Seats.{fresh_tail, seat_of}

-- the reader put the end mark after its records
abbrev pub is_closed : EndCause → Bool
is_closed Ended = true
is_closed Stopped = true
is_closed Failed = true
is_closed Memory = false
is_closed Unclosed = false

-- What each cause of a reader's end says. `Ended`: all records of the feed were accepted, and none is to come. `Failed`: the feed answered
-- a fault. `Stopped`: a stop was asked for, and the note knows it.
abbrev pub Means : EndCause → (before after : Told) → List Record → (faults faults' : ℕ) → Note → Type 0
Means Ended before after lines faults faults' note = AreAll lines before after
Means Failed before after lines faults faults' note = faults < faults'
Means Stopped before after lines faults faults' note = is_some note.cause ≡ true
Means Memory before after lines faults faults' note = Unit {0}
Means Unclosed before after lines faults faults' note = ⊥

-- A reader can begin: nothing was put by its seat, its note is one of the stop cell's, the configuration has a generation, and the feed has
-- answered fewer than 2^64 - 1 faults
pub record CanRead (queue : Shape) (tail : SenderSeat ConnEntry) (cell : ℕ) (note : Note) (generations : ℕ) (faults : ℕ) : Type 0 where
  pub not_put : tail ≡ fresh_tail 0 queue
  pub note_of : IsNoteOf cell note
  pub some : 0 < generations
  pub few : faults < 2 ^ 64 - 1

-- how many records were accepted before each of these renewals
abbrev pub counts_of : List Renewal → List ℕ
counts_of renewals = map (λ (r : Renewal). r.accepted) renewals

-- the notes that these renewals have of their generations' cells
abbrev pub notes_of : List Renewal → List Note
notes_of renewals = map (λ (r : Renewal). r.note) renewals

-- What a reader has done. The arguments are, before and after: what its feed told, how many faults the feed had answered, and the reader's
-- seat in the connection's queue; then the number of generations, and the cells of those after the first; the number of records that it
-- counted, its renewals and the cause of its end; and its note of the stop cell, before and after.
pub record HasRead (before after : Told) (faults faults' : ℕ) (tail tail' : SenderSeat ConnEntry) (generations : ℕ) (cells : List ℕ) (count : ℕ) (renewals : List Renewal) (cause : EndCause) (note note' : Note) : Type 0 where
  -- the records that the reader accepted are the first of those that were to come
  pub lines : List Record
  pub first : AreFirst lines before
  pub counted : count ≡ length lines
  -- it put them, numbered from 0, with the marks of its renewals between them, and the end mark after them unless memory was refused
  pub put : AreEntriesOf tail'.put (beside (counts_of renewals) lines) (length renewals) (is_closed cause)
  pub rising : NeverFalls (counts_of renewals)
  pub within : All (λ m. m ≤ length lines) (counts_of renewals)
  pub few_renewals : length renewals < generations
  pub known : AreKnown cells (notes_of renewals)
  pub seat : seat_of tail' ≡ seat_of tail
  pub means : Means cause before after lines faults faults' note'
  pub cell : note'.cell ≡ note.cell
