-- The seats of queues: what was put or taken by them, and which seats they are.
use Rattle.std.specs.Prelude.{◌≡◌, ◌<◌, ◌==◌, ◌++◌, ◌∷◌, if◌then◌else◌, ℕ, List, [], map, length, slice_index_or}
use Rattle.gate_queue.specs.declared.tagged.Tagged.{Tagged}
use Rattle.gate_queue.specs.Seats.{SenderSeat, Shape, TakerSeat, QueueName}

module _ {T : Type 0} where
  -- values without their senders
  abbrev pub values : List (Tagged T) → List T
  values xs = map (λ (x : Tagged T). x.value) xs

  -- the seat of sender c of a queue, by which nothing was put
  abbrev pub fresh_tail : ℕ → Shape → SenderSeat T
  fresh_tail c queue = record { queue = queue.name; sender = c; put = [] }

  -- the taker's seat of a queue, by which nothing was taken
  abbrev pub fresh_head : Shape → TakerSeat T
  fresh_head queue = record { queue = queue.name; taken = [] }

-- the identity of the seat of sender c of this queue
abbrev pub seat_in : ℕ → Shape → QueueName × ℕ
seat_in c queue = (queue.name, c)

module _ {T : Type 0} where
  -- the identity of a seat: its queue, and the sender's number
  abbrev pub seat_of : SenderSeat T → QueueName × ℕ
  seat_of tail = (tail.queue, tail.sender)

  -- this value was put by the seat of this number, and by no other
  abbrev pub PutAt : ℕ → T → List (SenderSeat T) → List (SenderSeat T) → Type 0
  PutAt number value before now =
      (length now ≡ length before)
      × ((k : ℕ) (d : SenderSeat T) → k < length before → (slice_index_or now k d).put ≡ (slice_index_or before k d).put ++ (if number == k then value ∷ [] else []))
