-- Further definitions about the seats of `Views`, which only private contracts and proofs cite.
use Rattle.std.specs.Prelude.{◌≡◌, ℕ, suc, ◌<◌, List, [], ◌∷◌, ◌++◌, length, slice_index_or}
use Rattle.gate_queue.specs.declared.tagged.Tagged.{Tagged}
use Rattle.gate_queue.specs.declared.known.Got.{Got}
use Rattle.gate_queue.specs.Seats.{QueueId, SenderSeat}

module _ {T : Type 0} where
  -- what the taker knows, when seats that had put these lists are joined to its own
  abbrev pub with_joined : Got T → List (List T) → Got T
  with_joined v lists = record { senders = v.senders; made = v.made; taken = v.taken; joined = lists }

  -- what the taker knows after it took these values too
  abbrev pub with_more : Got T → List (Tagged T) → Got T
  with_more v xs = record { senders = v.senders; made = v.made; taken = v.taken ++ xs; joined = v.joined }

  -- these are seats of the queue, from sender 0 on
  abbrev pub AreSeats : QueueId → ℕ → List (SenderSeat T) → Type 0
  AreSeats id senders tails = (k : ℕ) (d : SenderSeat T) → k < length tails → ((slice_index_or tails k d).queue ≡ record { id = id; senders = senders }) × ((slice_index_or tails k d).sender ≡ k)

  -- a sender's seat in which nothing was put yet
  abbrev pub new_seat : QueueId → (senders s : ℕ) → SenderSeat T
  new_seat id senders s = record { queue = record { id = id; senders = senders }; sender = s; put = [] }

  -- these are new seats of the queue, from sender 0 on
  abbrev pub AreNew : QueueId → ℕ → List (SenderSeat T) → Type 0
  AreNew id senders tails = (k : ℕ) (d : SenderSeat T) → k < length tails → slice_index_or tails k d ≡ new_seat id senders k

  -- the seats of the senders from n on, which have put these lists
  abbrev pub seats_from : QueueId → (senders n : ℕ) → List (List T) → List (SenderSeat T)
  seats_from id senders n [] = []
  seats_from id senders n (l ∷ ls) = record { queue = record { id = id; senders = senders }; sender = n; put = l } ∷ seats_from id senders (suc n) ls
