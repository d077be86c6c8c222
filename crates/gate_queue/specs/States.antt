-- The states that the rule of a queue allows.
use Rattle.std.specs.Prelude.{◌≡◌, ℕ, ◌<◌, ◌≤◌, List, [], ◌++◌, length, All}
use Rattle.gate_queue.specs.declared.tagged.Tagged.{Tagged}
use Rattle.gate_queue.specs.Tagged.{values_of}
use Rattle.gate_queue.specs.Seats.{Shape, SenderSeat, TakerSeat}

-- A state of a queue: what each sender has put, what was taken, and what waits
pub record State (T : Type 0) : Type 0 where
  pub put : ℕ → List T
  pub taken : List (Tagged T)
  pub waiting : List (Tagged T)

module _ {T : Type 0} where
  -- the values come from senders of this queue
  abbrev pub AreFrom : ℕ → List (Tagged T) → Type 0
  AreFrom senders xs = All (λ x. x.sender < senders) xs

  -- the values taken from this sender, followed by those of its that wait, are the values that it put
  abbrev pub IsDelivered : (taken waiting : List (Tagged T)) → ℕ → List T → Type 0
  IsDelivered taken waiting sender put = values_of sender taken ++ values_of sender waiting ≡ put

  -- The rule: only the queue's senders put values; no more values wait than there are places; and for each sender, the values taken from it
  -- and those that wait are the values that it put
  pub record Allows (queue : Shape) (s : State T) : Type 0 where
    pub from : AreFrom queue.name.senders (s.taken ++ s.waiting)
    pub room : length s.waiting ≤ queue.capacity
    pub delivered : (k : ℕ) → IsDelivered s.taken s.waiting k (s.put k)

  -- the rule allows a state in which the queue is full and the sender has put just what this seat has
  abbrev pub MayBeFull : Shape → SenderSeat T → Type 0
  MayBeFull queue tail = (s : State T) × Allows queue s × (s.put tail.sender ≡ tail.put) × (length s.waiting ≡ queue.capacity)

  -- the rule allows a state in which the queue is empty and just what this seat has was taken
  abbrev pub MayBeEmpty : Shape → TakerSeat T → Type 0
  MayBeEmpty queue head = (s : State T) × Allows queue s × (s.taken ≡ head.taken) × (s.waiting ≡ [])
