-- The two ways to say the rule of a queue, the threads' protocol and the states that it allows, agree.
use Rattle.std.specs.Prelude.{◌≡◌, ◌≤◌, ℕ, List, [], ◌∷◌, length, map}
use Rattle.std.specs.List.{range_with_len}
use mathlib.Core.Option.{some}
use lib.ListN.{get_elem?}
use Rattle.gate_queue.specs.declared.tagged.Tagged.{Tagged}
use Rattle.gate_queue.specs.declared.known.Got.{Got}
use Rattle.gate_queue.specs.declared.known.Known.{Known}
use Rattle.gate_queue.specs.declared.known.Put.{Put}
use Rattle.gate_queue.specs.declared.known.Known.TheVariants.{Sender, Taker, Nothing}
use Rattle.gate_queue.specs.Seats.{Shape}
use Rattle.gate_queue.specs.Sharing.{Shares}
use Rattle.gate_queue.specs.States.{Allows, State}
use Rattle.gate_queue.specs.Tagged.{values_of}

module _ {T : Type 0} where
  -- what a seat knows is true in this state
  abbrev pub Knows : State T → Known T → Type 0
  Knows s (Sender v) = s.put v.sender ≡ v.put
  Knows s (Taker v) = s.taken ≡ v.taken
  Knows s Nothing = Unit {0}

  -- the state that the protocol keeps: each sender has put its values among all, and these items wait
  abbrev pub state_in : (items : List (Tagged T)) (views : List (Known T)) → Shares items views → State T
  state_in items views shares = record { put = λ k. values_of k shares.all; taken = shares.taken; waiting = items }

  -- what the seat of sender k knows in this state, and what the taker's seat knows before any seat is joined to it
  abbrev pub sender_in : Shape → State T → ℕ → Put T
  sender_in queue s k = record { sender = k; senders = queue.name.senders; put = s.put k }

  abbrev pub taker_in : Shape → State T → Got T
  taker_in queue s = record { senders = queue.name.senders; made = queue.name.senders; taken = s.taken; joined = [] }

  -- all seats of a queue, the taker's first
  abbrev pub seats_in : Shape → State T → List (Known T)
  seats_in queue s = Taker (taker_in queue s) ∷ map (λ k. Sender (sender_in queue s k)) (range_with_len 0 queue.name.senders)

-- Each state that the threads keep by the protocol is one that the rule of the queue allows, as long as no more values wait than there are
-- places, and what each seat knows is true in that state.
abbrev pub ProtocolKeepsTheRule : Type 0 → Type 0
ProtocolKeepsTheRule T = (queue : Shape) (items : List (Tagged T)) (views : List (Known T)) (shares : Shares items views) →
    shares.senders ≡ queue.name.senders → length items ≤ queue.capacity →
    Allows queue (state_in items views shares) × ((pass : ℕ) (v : Known T) → get_elem? views pass ≡ some v → Knows (state_in items views shares) v)

-- Each state that the rule allows is one that the protocol can keep, with a seat for each sender and the taker's.
abbrev pub RuleIsTheProtocols : Type 0 → Type 0
RuleIsTheProtocols T = (queue : Shape) (s : State T) → Allows queue s →
    (shares : Shares s.waiting (seats_in queue s)) × (shares.senders ≡ queue.name.senders) × (shares.taken ≡ s.taken) × ((k : ℕ) → values_of k shares.all ≡ s.put k)
