-- What contracts see of a queue and of its seats, and when a seat is one of a queue's.
use Rattle.std.specs.Prelude.{◌≡◌, ℕ, ◌<◌, List, [], ◌∷◌, ◌++◌, length, slice_index_or}
use Rattle.atomic_table.specs.Seated.{TableId}
use Rattle.atomic_blocks.specs.Laid.{WebId}
use Rattle.gate_queue.specs.declared.tagged.Tagged.{Tagged}

-- An identity that no two queues share: the table of a bounded queue, or the web of blocks of an unbounded one
pub data QueueId : Type 0 where
  in_table : TableId → QueueId
  in_blocks : WebId → QueueId

-- A queue's name: its identity, and how many senders it has
pub record QueueName : Type 0 where
  pub id : QueueId
  pub senders : ℕ

-- A queue: its name, and how many values it can hold. A queue without a bound has a capacity that no memory has room for.
pub record Shape : Type 0 where
  pub name : QueueName
  pub capacity : ℕ

-- A sender's seat: its queue, the sender's number, and what was put, in order
pub record SenderSeat (T : Type 0) : Type 0 where
  pub queue : QueueName
  pub sender : ℕ
  pub put : List T

-- The taker's seat: its queue, and what was taken, in order
pub record TakerSeat (T : Type 0) : Type 0 where
  pub queue : QueueName
  pub taken : List (Tagged T)

module _ {T : Type 0} where
  -- the sender's seat is one of this queue's
  abbrev pub IsTailOf : Shape → SenderSeat T → Type 0
  IsTailOf queue tail = tail.queue ≡ queue.name

  -- the taker's seat is that of this queue
  abbrev pub IsHeadOf : Shape → TakerSeat T → Type 0
  IsHeadOf queue head = head.queue ≡ queue.name

  -- these are seats of this queue's senders, from sender 0 on
  abbrev pub AreTailsOf : Shape → List (SenderSeat T) → Type 0
  AreTailsOf queue tails = (k : ℕ) (d : SenderSeat T) → k < length tails → IsTailOf queue (slice_index_or tails k d) × ((slice_index_or tails k d).sender ≡ k)

  -- these are the seats of all senders of this queue, from sender 0 on
  abbrev pub AreAllTailsOf : Shape → List (SenderSeat T) → Type 0
  AreAllTailsOf queue tails = (length tails ≡ queue.name.senders) × AreTailsOf queue tails

  -- the seat after one more value was put
  abbrev pub with_put : SenderSeat T → T → SenderSeat T
  with_put tail x = record { queue = tail.queue; sender = tail.sender; put = tail.put ++ x ∷ [] }

  -- the seat after one more value was taken
  abbrev pub with_taken : TakerSeat T → Tagged T → TakerSeat T
  with_taken head x = record { queue = head.queue; taken = head.taken ++ x ∷ [] }
