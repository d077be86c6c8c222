-- How contracts see a queue without a bound and its seats.
use Rattle.std.specs.Prelude.{◌≡◌, ℕ, ◌-◌, ◌^◌, ◌≤◌, List, ◌++◌, length, take, Option, None}
use Rattle.atomic_blocks.specs.declared.web.Seat.{Seat}
use Rattle.crossbeam_queue.specs.SegTies.{SegId}
use Rattle.crossbeam_queue.specs.declared.seg_queue.Going.{Going}
use Rattle.gate_queue.specs.declared.tagged.Tagged.{Tagged}
use Rattle.gate_queue.specs.declared.known.Known.{Known}
use Rattle.gate_queue.specs.Seats.{QueueId, in_blocks, Shape, SenderSeat, TakerSeat}
use Rattle.gate_queue.specs.Views.{as_taker, sender_at, KnowsSender, KnowsTaker}
use Rattle.gate_queue.specs.States.{AreFrom}

-- A queue of these blocks: its capacity is more than memory has room for, because it has no bound
abbrev pub free_shape : {A : Type 0} → SegId A → ℕ → Shape
free_shape blocks senders = record { name = record { id = in_blocks blocks.web; senders = senders }; capacity = 2 ^ 64 }

module _ {T : Type 0} where
  -- the values that were handed out: all that were taken but those that are ready
  abbrev pub handed_out : (taken ready : List (Tagged T)) → List (Tagged T)
  handed_out taken ready = take (length taken - length ready) taken

  -- the taker's seat that knows this, when these values are ready
  abbrev pub seat_with : QueueId → Known T → List (Tagged T) → TakerSeat T
  seat_with id k ready = record { queue = record { id = id; senders = (as_taker k).senders }; taken = handed_out (as_taker k).taken ready }

abbrev pub FreePass : Type 0 → Type 0 → Type 0
FreePass T A = Seat (Option (Tagged T)) (Going (Tagged T) (Known T)) A

module _ {T A : Type 0} where
  -- what the seat behind this pass knows
  abbrev pub known_by : FreePass T A → Known T
  known_by p = p.me.view.client

  abbrev pub free_sender_seat : ℕ → FreePass T A → SenderSeat T
  free_sender_seat s p = sender_at (in_blocks p.web) s (known_by p)

  -- the taker's seat, when these values are ready
  abbrev pub free_taker_seat : FreePass T A → List (Tagged T) → TakerSeat T
  free_taker_seat p ready = seat_with (in_blocks p.web) (known_by p) ready

  -- the pass carries nothing
  abbrev pub IsAtRest : FreePass T A → Type 0
  IsAtRest p = (p.me.hand ≡ None) × (p.me.spare ≡ None)

  -- the pass is that of sender s and carries nothing
  pub record IsFreeSenderRight (s : ℕ) (p : FreePass T A) : Type 0 where
    pub at_rest : IsAtRest p
    pub knows : KnowsSender s (known_by p)

  -- The pass is the taker's and carries nothing. The values that are ready were taken last, and there is room for a block of values
  pub record IsFreeTakerRight (p : FreePass T A) (ready : List (Tagged T)) (places : ℕ) : Type 0 where
    pub at_rest : IsAtRest p
    pub knows : KnowsTaker (known_by p)
    pub split : handed_out (as_taker (known_by p)).taken ready ++ ready ≡ (as_taker (known_by p)).taken
    pub from : AreFrom (as_taker (known_by p)).senders ready
    pub room : 31 ≤ places
