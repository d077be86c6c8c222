-- How contracts see the seats: by what their passes know.
use Rattle.std.specs.Prelude.{◌≡◌, ℕ, ◌<◌, []}
use Rattle.crossbeam_queue.specs.Passes.{Pass, view}
use Rattle.gate_queue.specs.declared.tagged.Tagged.{Tagged}
use Rattle.gate_queue.specs.declared.known.Put.{Put}
use Rattle.gate_queue.specs.declared.known.Got.{Got}
use Rattle.gate_queue.specs.declared.known.Known.{Known}
use Rattle.gate_queue.specs.declared.known.Known.TheVariants.{Sender, Taker, Nothing}
use Rattle.gate_queue.specs.Seats.{QueueId, in_table, SenderSeat, TakerSeat}

module _ {T : Type 0} where
  abbrev pub nobody : Put T
  nobody = record { sender = 0; senders = 0; put = [] }

  abbrev pub no_taker : Got T
  no_taker = record { senders = 0; made = 0; taken = []; joined = [] }

  -- what a sender's seat knows
  abbrev pub as_sender : Known T → Put T
  as_sender (Sender v) = v
  as_sender (Taker v) = nobody
  as_sender Nothing = nobody

  -- what the taker's seat knows
  abbrev pub as_taker : Known T → Got T
  as_taker (Taker v) = v
  as_taker (Sender v) = no_taker
  as_taker Nothing = no_taker

  -- the seat of sender s of a queue that knows this
  abbrev pub sender_at : QueueId → ℕ → Known T → SenderSeat T
  sender_at id s k = record { queue = record { id = id; senders = (as_sender k).senders }; sender = s; put = (as_sender k).put }

  -- the taker's seat of a queue that knows this
  abbrev pub taker_at : QueueId → Known T → TakerSeat T
  taker_at id k = record { queue = record { id = id; senders = (as_taker k).senders }; taken = (as_taker k).taken }

  -- this is what the sender with number s knows
  pub record KnowsSender (s : ℕ) (k : Known T) : Type 0 where
    pub known : k ≡ Sender (as_sender k)
    pub number : (as_sender k).sender ≡ s
    pub within : s < (as_sender k).senders

  -- this is what the taker knows when each sender has its seat and none is joined
  pub record KnowsTaker (k : Known T) : Type 0 where
    pub known : k ≡ Taker (as_taker k)
    pub joined : (as_taker k).joined ≡ []
    pub made : (as_taker k).made ≡ (as_taker k).senders

  -- ---- the seats of a bounded queue

  abbrev pub sender_seat : ℕ → Pass (Tagged T) (Known T) → SenderSeat T
  sender_seat s p = sender_at (in_table p.table_id) s (view p)

  abbrev pub taker_seat : Pass (Tagged T) (Known T) → TakerSeat T
  taker_seat p = taker_at (in_table p.table_id) (view p)

  -- the pass is that of sender s and holds no slot of the table
  pub record IsSenderRight (s : ℕ) (p : Pass (Tagged T) (Known T)) : Type 0 where
    pub at_rest : p.me.1 ≡ []
    pub knows : KnowsSender s (view p)

  -- the pass is the taker's and holds no slot of the table
  pub record IsTakerRight (p : Pass (Tagged T) (Known T)) : Type 0 where
    pub at_rest : p.me.1 ≡ []
    pub knows : KnowsTaker (view p)
