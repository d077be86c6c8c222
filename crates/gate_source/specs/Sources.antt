-- What contracts see of a connection's source, and what its calls change.
use Rattle.std.specs.Prelude.{◌≡◌, ◌≤◌, ◌<◌, ◌+◌, ◌^◌, ◌∷◌, ◌++◌, ℕ, List, [], All, true, false, length, None, Result, Ok, Err}
use Rattle.gate_record.specs.declared.record.Record.{Record}
use Rattle.gate_record.specs.declared.transit.ConnEntry.{ConnEntry}
use Rattle.gate_record.specs.declared.transit.ConnEntry.TheVariants as entry
use Rattle.gate_record.specs.Entries.{AreEntriesOf, beside}
use Rattle.gate_queue.specs.Seats.{SenderSeat, Shape, with_put}
use Rattle.gate_queue.specs.States.{MayBeFull}
use Rattle.gate_source.specs.declared.source.OfferFault.{OfferFault}
use Rattle.gate_source.specs.declared.source.RenewFault.{RenewFault}
use Rattle.gate_source.specs.declared.source.RenewFault.TheVariants.{Last, Full as NoPlace}
use Rattle.gate_source.specs.declared.source.OfferFault.TheVariants.{Stopped, Full}
use Rattle.gate_source.specs.declared.stop.StopCause.{StopCause}
use Rattle.gate_source.specs.Stops.{Learns, Note}

-- A source: its seat in the connection's queue, how many records were accepted, and the generation of the configuration in force
pub record State : Type 0 where
  pub seat : SenderSeat ConnEntry
  pub count : ℕ
  pub generation : ℕ

-- one more record is put, and its number is the count before it
abbrev pub accepted : State → Record → State
accepted source line = record source { seat = with_put source.seat (entry.Numbered source.count line); count = source.count + 1 }

-- the mark of the next generation is put
abbrev pub renewed : State → State
renewed source = record source { seat = with_put source.seat entry.Renew; generation = source.generation + 1 }

-- the fault hands this record back
abbrev pub HandsBack : Record → OfferFault → Type 0
HandsBack line (Stopped back) = back ≡ line
HandsBack line (Full back) = back ≡ line

-- An offer is stopped exactly where the note knows a cause in the end, which is the one that the note knew before if it knew any. Every
-- other answer leaves a note that knows nothing.
abbrev pub Tells : Note → Note → Result ℕ OfferFault → Type 0
Tells old new (Err (Stopped line)) = (cause : StopCause) × Learns old cause new
Tells old new (Err (Full line)) = (old.cause ≡ None) × (new ≡ old)
Tells old new (Ok number) = (old.cause ≡ None) × (new ≡ old)

-- The queue may be full. The queue of an only sender is full only once the sender has put as many values as the queue holds
pub record IsFull (queue : Shape) (seat : SenderSeat ConnEntry) : Type 0 where
  pub may : MayBeFull queue seat
  pub only_sender : queue.name.senders ≡ 1 → queue.capacity ≤ length seat.put

-- `Full` comes only where the queue may be full, or after 2^62 records
abbrev pub IsNeeded : Shape → State → OfferFault → Type 0
IsNeeded queue source (Full line) = source.count < 2 ^ 62 → IsFull queue source.seat
IsNeeded queue source (Stopped line) = Unit {0}

-- Why a renewal fails: the last generation is in force already, or the queue was full
abbrev pub MayRenewFault : Shape → State → ℕ → RenewFault → Type 0
MayRenewFault queue source count Last = count ≤ source.generation + 1
MayRenewFault queue source count NoPlace = (source.generation + 1 < count) × IsFull queue source.seat

-- ---- what a source has put so far

-- each number is at most every one that follows it
abbrev pub NeverFalls : List ℕ → Type 0
NeverFalls [] = Unit {0}
NeverFalls (n ∷ numbers) = All (λ m. n ≤ m) numbers × NeverFalls numbers

-- A source that started from this seat has accepted these records, one after another, and has put later generations in force, of so many
-- generations in all. The list of numbers says, for each renewal, how many records were accepted before it.
pub data HasAccepted (seat : SenderSeat ConnEntry) (generations : ℕ) : State → List Record → List ℕ → Type 0 where
  begins : HasAccepted seat generations (record { seat = seat; count = 0; generation = 0 }) [] []
  accepts : {source : State} {records : List Record} {renewals : List ℕ} (line : Record) → HasAccepted seat generations source records renewals →
      HasAccepted seat generations (accepted source line) (records ++ line ∷ []) renewals
  renews : {source : State} {records : List Record} {renewals : List ℕ} → HasAccepted seat generations source records renewals → source.generation + 1 < generations →
      HasAccepted seat generations (renewed source) records (renewals ++ length records ∷ [])

-- What a source has put is the records that it accepted, numbered from 0, and the marks of its renewals between them. The end mark, if it
-- is put, follows them. The source's count is the number of the records, and its generation is that of the renewals, of which there are
-- fewer than generations. The numbers of the renewals never fall, and each is at most the number of records.
pub record AreNumbered (seat : SenderSeat ConnEntry) (generations : ℕ) (source : State) (records : List Record) (renewals : List ℕ) : Type 0 where
  pub put : AreEntriesOf source.seat.put (beside renewals records) source.generation false
  pub ended : AreEntriesOf (with_put source.seat entry.End).put (beside renewals records) source.generation true
  pub count : source.count ≡ length records
  pub marks : source.generation ≡ length renewals
  pub rising : NeverFalls renewals
  pub within : All (λ m. m ≤ length records) renewals
  pub few : length renewals < generations
  pub queue : source.seat.queue ≡ seat.queue
  pub sender : source.seat.sender ≡ seat.sender

abbrev pub AcceptedAreNumbered : Type 0
AcceptedAreNumbered = (seat : SenderSeat ConnEntry) (generations : ℕ) (source : State) (records : List Record) (renewals : List ℕ) → seat.put ≡ [] → 0 < generations →
    HasAccepted seat generations source records renewals → AreNumbered seat generations source records renewals
