-- Further definitions about `Readers`, which only private contracts and proofs cite.
use Rattle.std.specs.Prelude.{◌≡◌, ◌<◌, ◌≤◌, ◌⊎◌, ◌+◌, ◌-◌, if◌then◌else◌, ℕ, List, true, is_some, length}
use Rattle.gate_record.specs.declared.record.Record.{Record}
use Rattle.gate_source.specs.Stops.{Note}
use Rattle.gate_report.specs.declared.report.EndCause.{EndCause}
use Rattle.gate_report.specs.declared.report.EndCause.TheVariants.{Unclosed, Ended, Stopped, Failed, Memory}
use Rattle.gate_source.specs.Feeds.{Told, Steps}
use Rattle.gate_record.specs.declared.transit.ConnEntry.{ConnEntry}
use Rattle.gate_record.specs.declared.transit.ConnEntry.TheVariants as entry
use Rattle.gate_queue.specs.Seats.{SenderSeat, with_put}
use Rattle.gate_source.specs.Sources.{HasAccepted, State, renewed}
use Rattle.gate_source.specs.declared.feed.FeedStep.TheVariants.{Got}
use Rattle.gate_source.specs.Inner.Feeds.{Leaves}
use Rattle.gate_run_reader.specs.declared.running.Mark.{Mark}
use Rattle.gate_run_reader.specs.declared.running.Mark.TheVariants.{Put, NoLater, CutShort}
use Rattle.gate_run_reader.specs.declared.running.RunningReader.{RunningReader}
use Rattle.gate_run_reader.specs.declared.running.Renewal.{Renewal}
use Rattle.gate_run_reader.specs.Asked.{AreKnown}
use Rattle.gate_run_reader.specs.Readers.{is_closed, counts_of, notes_of}

-- RunningReader is cut short for this cause: memory was refused somewhere, or a stop was asked for and the note knows it
abbrev pub CutsShort : EndCause → Note → Type 0
CutsShort Memory note = Unit {0}
CutsShort Stopped note = is_some note.cause ≡ true
CutsShort Ended note = ⊥
CutsShort Failed note = ⊥
CutsShort Unclosed note = ⊥

-- A reader left its seat for the given cause, or because memory was refused. It has put the end mark unless memory was refused
pub record Closes (cause : EndCause) (seat : SenderSeat ConnEntry) (cause' : EndCause) (tail : SenderSeat ConnEntry) : Type 0 where
  pub for_it : (cause' ≡ cause) ⊎ (cause' ≡ Memory)
  pub left : tail ≡ (if is_closed cause' then with_put seat entry.End else seat)

-- A reader at work. It accepted these records, and between them put the marks of renewals, each of the next of so many generations and
-- known by its cell to be asked for. The rest of the records is still to come
pub record IsReading (before after : Told) (tail : SenderSeat ConnEntry) (generations : ℕ) (cells : List ℕ) (source : State) (renewals : List Renewal) : Type 0 where
  pub lines : List Record
  pub has_accepted : HasAccepted tail generations source lines (counts_of renewals)
  pub counted : source.count ≡ length lines
  pub known : AreKnown cells (notes_of renewals)
  pub leaves : Leaves before lines after

-- whatever the reader did before, it goes on as it should, and no more record came
abbrev pub Continues : ℕ → List ℕ → RunningReader → RunningReader → Type 0
Continues generations cells before now = (told told' : Told) (tail : SenderSeat ConnEntry) →
    IsReading told told' tail generations cells before.source before.renewals.items → IsReading told told' tail generations cells now.source now.renewals.items

-- whatever the reader did before, it goes on as it should, and this one record more came
abbrev pub TakesIn : ℕ → List ℕ → Record → RunningReader → RunningReader → Type 0
TakesIn generations cells line before now = (told told' told'' : Told) (tail : SenderSeat ConnEntry) → Steps told' (Got line) told'' →
    IsReading told told' tail generations cells before.source before.renewals.items → IsReading told told'' tail generations cells now.source now.renewals.items

-- Either the mark was put, or nothing was: because there is no later generation, or for this cause, which cuts reading short
abbrev pub Marks : ℕ → Mark → RunningReader → RunningReader → Type 0
Marks generations Put before now = (before.source.generation + 1 < generations) × (now.source ≡ renewed before.source)
Marks generations NoLater before now = (generations ≤ before.source.generation + 1) × (now.source ≡ before.source)
Marks generations (CutShort cause) before now = (now.source ≡ before.source) × CutsShort cause now.note
