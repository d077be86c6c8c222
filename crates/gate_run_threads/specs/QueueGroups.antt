-- Groups of queues that have the same senders.
use Rattle.std.specs.Prelude.{◌≡◌, ℕ, List, [], ◌∷◌, Some, length, map, slice_get}
use Rattle.std.specs.List.{range_with_len}
use Rattle.gate_queue.specs.declared.tagged.Tagged.{Tagged}
use Rattle.gate_queue.specs.Seats.{QueueName, SenderSeat, Shape, TakerSeat}
use Rattle.gate_queue.specs.States.{AreFrom, IsDelivered}
use Rattle.gate_run_threads.specs.Lists.{Each, Threes}
use Rattle.gate_run_threads.specs.Seats.{fresh_head, fresh_tail, seat_in}

-- the identities of the seats of all senders of a queue
abbrev pub seats_in : Shape → List (QueueName × ℕ)
seats_in queue = map (λ s. seat_in s queue) (range_with_len 0 queue.name.senders)

-- each of these queues has so many places
abbrev pub HavePlaces : ℕ → List Shape → Type 0
HavePlaces places queues = map (λ (queue : Shape). queue.capacity) queues ≡ map (λ (queue : Shape). places) queues

module _ {T : Type 0} where
  -- New queues, with so many senders each; the taker's seat of each queue; and for each sender its seats in all queues. By none of these
  -- seats anything was put or taken.
  pub record AreOpenQueues (count senders : ℕ) (queues : List Shape) (heads : List (TakerSeat T)) (tails : List (List (SenderSeat T))) : Type 0 where
    pub many : length queues ≡ count
    pub of_senders : map (λ (queue : Shape). queue.name.senders) queues ≡ map (λ (queue : Shape). senders) queues
    pub not_taken : heads ≡ map fresh_head queues
    pub not_put : tails ≡ map (λ s. map (fresh_tail s) queues) (range_with_len 0 senders)

  -- Each value that this seat put into the queue was taken, or waits: those that the taker took of this sender, followed by those of it
  -- that wait, are the values that the sender put.
  pub record IsSettled (queue : Shape) (head : TakerSeat T) (tail : SenderSeat T) : Type 0 where
    pub waiting : List (Tagged T)
    pub from : AreFrom queue.name.senders head.taken
    pub from_waiting : AreFrom queue.name.senders waiting
    pub delivered : IsDelivered head.taken waiting tail.sender tail.put

  -- each of these queues is settled, with its seats
  abbrev pub AreSettled : List Shape → List (TakerSeat T) → List (List (SenderSeat T)) → Type 0
  AreSettled queues heads seats = Threes (λ queue head tails. AreFrom queue.name.senders head.taken × Each (IsSettled queue head) tails) queues heads seats

  -- the same where the seats are listed by sender and then by queue
  pub record AreQueuesSettled (queues : List Shape) (heads : List (TakerSeat T)) (senders : List (List (SenderSeat T))) : Type 0 where
    pub from : (k : ℕ) (queue : Shape) (head : TakerSeat T) → slice_get queues k ≡ Some queue → slice_get heads k ≡ Some head → AreFrom queue.name.senders head.taken
    pub each : (s k : ℕ) (tails : List (SenderSeat T)) (tail : SenderSeat T) (queue : Shape) (head : TakerSeat T) →
        slice_get senders s ≡ Some tails → slice_get tails k ≡ Some tail → slice_get queues k ≡ Some queue → slice_get heads k ≡ Some head → IsSettled queue head tail

  -- the same of several stages with one sender each
  abbrev pub AreGroupsSettled : List (List Shape) → List (List (TakerSeat T)) → List (List (SenderSeat T)) → Type 0
  AreGroupsSettled queues heads tails = Threes (λ group own_heads own_tails. AreQueuesSettled group own_heads (own_tails ∷ [])) queues heads tails
