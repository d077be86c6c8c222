-- Further definitions about the rule of `Sharing`, which only private contracts and proofs cite.
use Rattle.std.specs.Prelude.{◌≡◌, ℕ, ◌+◌, ◌<◌, List, [], ◌∷◌, ◌++◌, length, slice_index_or}
use Rattle.gate_queue.specs.declared.tagged.Tagged.{Tagged}
use Rattle.gate_queue.specs.declared.known.Put.{Put}
use Rattle.gate_queue.specs.declared.known.Got.{Got}
use Rattle.gate_queue.specs.declared.known.Known.{Known}
use Rattle.gate_queue.specs.declared.known.Known.TheVariants.{Sender, Taker, Nothing}
use Rattle.gate_queue.specs.Tagged.{values_of}
use Rattle.gate_queue.specs.States.{AreFrom}
use Rattle.gate_queue.specs.Inner.Views.{with_more}
use Rattle.gate_queue.specs.Sharing.{joined_number}

module _ {T : Type 0} where
  -- what the taker of a new queue knows, when so many senders are counted and so many of them have their seat
  abbrev pub opening : (senders made : ℕ) → Known T
  opening senders made = Taker (record { senders = senders; made = made; taken = []; joined = [] })

  abbrev pub newcomer : ℕ → Known T
  newcomer senders = opening senders 0

  abbrev pub planned : Known T → Known T
  planned (Taker v) = Taker (record v { senders = v.senders + 1 })
  planned (Sender v) = Sender v
  planned Nothing = Nothing

  abbrev pub nothing : Known T → Known T
  nothing v = Nothing

  abbrev pub seated : Known T → Known T
  seated (Taker v) = Taker (record v { made = v.made + 1 })
  seated (Sender v) = Sender v
  seated Nothing = Nothing

  abbrev pub next_sender : Known T → Known T
  next_sender (Taker v) = Sender (record { sender = v.made; senders = v.senders; put = [] })
  next_sender (Sender v) = Nothing
  next_sender Nothing = Nothing

  -- what a put makes of what the sender's seat knows
  abbrev pub HasPut : Known T → Tagged T → Known T → Type 0
  HasPut (Sender v) x w = w ≡ Sender (record v { put = v.put ++ x.value ∷ [] })
  HasPut (Taker v) x w = Unit {0}
  HasPut Nothing x w = Unit {0}

  -- the values that can wait where a sender has put just what this seat knows
  pub record SenderAllows (v : Put T) (items : List (Tagged T)) : Type 0 where
    pub taken : List (Tagged T)
    pub from : AreFrom v.senders (taken ++ items)
    pub put : values_of v.sender (taken ++ items) ≡ v.put

  -- the values that can wait where just what this seat knows was taken
  pub record TakerAllows (v : Got T) (items : List (Tagged T)) : Type 0 where
    pub from : AreFrom v.senders (v.taken ++ items)
    pub joined : (i : ℕ) → i < length v.joined → slice_index_or v.joined i [] ≡ values_of (joined_number v i) (v.taken ++ items)

  abbrev pub CanWait : Known T → List (Tagged T) → Type 0
  CanWait (Sender v) items = SenderAllows v items
  CanWait (Taker v) items = TakerAllows v items
  CanWait Nothing items = Unit {0}

  abbrev pub took : Got T → Tagged T → Got T
  took v x = record v { taken = v.taken ++ x ∷ [] }

  -- what a taking makes of what the taker's seat knows
  abbrev pub HasTaken : Known T → Tagged T → Known T → Type 0
  HasTaken (Taker v) x w = (w ≡ Taker (took v x)) × ((items : List (Tagged T)) × TakerAllows (took v x) items)
  HasTaken (Sender v) x w = Unit {0}
  HasTaken Nothing x w = Unit {0}

  -- what taking several values at once makes of what the taker's seat knows
  abbrev pub HasTakenAll : Known T → List (Tagged T) → Known T → Type 0
  HasTakenAll (Taker v) xs w = (w ≡ Taker (with_more v xs)) × ((items : List (Tagged T)) × TakerAllows (with_more v xs) items)
  HasTakenAll (Sender v) xs w = Unit {0}
  HasTakenAll Nothing xs w = Unit {0}
