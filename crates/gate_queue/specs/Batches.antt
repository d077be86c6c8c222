-- What contracts see of a batch.
use Rattle.std.specs.Prelude.{◌≡◌, ℕ, ◌+◌, ◌<◌, Option, MatchOption}
use Rattle.std.specs.Borrow.{GName}
use Rattle.gate_queue.specs.declared.tagged.Tagged.{Tagged}
use Rattle.gate_queue.specs.declared.free.batch.Batch.{Batch}
use Rattle.gate_queue.specs.Seats.{TakerSeat, with_taken}

module _ {T : Type 0} where
  -- the taker's seat, with what the batch has given so far
  abbrev pub batch_head : Batch T → TakerSeat T
  batch_head b = b.head.now

  -- the ghost name of the reference to the taker's seat
  abbrev pub batch_lender : Batch T → GName
  batch_lender b = b.head.ghost_name

  -- how many more values the batch gives at most
  abbrev pub batch_left : Batch T → ℕ
  batch_left b = b.left

  -- the next value comes from a sender of the queue and joins the list of the taker's seat
  abbrev pub BatchGives : Batch T → Tagged T → Batch T → Type 0
  BatchGives b x c = (batch_head c ≡ with_taken (batch_head b) x) × (x.sender < (batch_head b).queue.senders) × (batch_left c + 1 ≡ batch_left b)

  -- a call of `next`: where no value comes, the list of the seat stays
  abbrev pub BatchSteps : Batch T → Option (Tagged T) → Batch T → Type 0
  BatchSteps b item c = (batch_lender c ≡ batch_lender b) × MatchOption item (batch_head c ≡ batch_head b) (λ x. BatchGives b x c)
