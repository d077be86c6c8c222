-- The rule that every queue keeps, and what the seats know while it is kept.
use Rattle.std.specs.Prelude.{◌≡◌, ℕ, suc, ◌+◌, ◌-◌, ◌<◌, ◌≤◌, List, [], ◌∷◌, ◌++◌, length, slice_index_or}
use mathlib.Core.Option.{some}
use lib.ListN.{get_elem?}
use Rattle.gate_queue.specs.declared.tagged.Tagged.{Tagged}
use Rattle.gate_queue.specs.declared.known.Put.{Put}
use Rattle.gate_queue.specs.declared.known.Got.{Got}
use Rattle.gate_queue.specs.declared.known.Known.{Known}
use Rattle.gate_queue.specs.declared.known.Known.TheVariants.{Sender, Taker, Nothing}
use Rattle.gate_queue.specs.Tagged.{values_of}
use Rattle.gate_queue.specs.States.{AreFrom}

module _ {T : Type 0} where
  -- A sender's seat knows its own values among all that were ever put. Seat s is held by pass p where `holder s ≡ p + 1`
  pub record IsSender (senders : ℕ) (holder : ℕ → ℕ) (all : List (Tagged T)) (pass : ℕ) (v : Put T) : Type 0 where
    pub seat : holder v.sender ≡ suc pass
    pub put : v.put ≡ values_of v.sender all
    pub count : v.senders ≡ senders
    pub within : v.sender < senders

  -- The number of the sender whose seat is the i-th of the joined ones: seats are joined from the last one on
  abbrev pub joined_number : Got T → ℕ → ℕ
  joined_number v i = v.senders - length v.joined + i

  -- The taker's seat knows what was taken. No pass holds a seat that isn't made yet, or one that was joined
  pub record IsTaker (taker senders : ℕ) (holder : ℕ → ℕ) (all taken : List (Tagged T)) (pass : ℕ) (v : Got T) : Type 0 where
    pub here : pass ≡ taker
    pub got : v.taken ≡ taken
    pub count : v.senders ≡ senders
    pub unmade : (s : ℕ) → v.made ≤ s → (holder s ≡ 0) × (values_of s all ≡ [])
    pub joined : (i : ℕ) → i < length v.joined → (holder (joined_number v i) ≡ 0) × (slice_index_or v.joined i [] ≡ values_of (joined_number v i) all)

  abbrev pub Fits : (taker senders : ℕ) → (ℕ → ℕ) → (all taken : List (Tagged T)) → ℕ → Known T → Type 0
  Fits taker senders holder all taken pass (Sender v) = IsSender senders holder all pass v
  Fits taker senders holder all taken pass (Taker v) = IsTaker taker senders holder all taken pass v
  Fits taker senders holder all taken pass Nothing = Unit {0}

  -- All values that were ever put, in one order, are those that were taken, followed by those that wait
  pub record Shares (items : List (Tagged T)) (views : List (Known T)) : Type 0 where
    pub taker : ℕ
    pub senders : ℕ
    pub holder : ℕ → ℕ
    pub all : List (Tagged T)
    pub taken : List (Tagged T)
    pub history : all ≡ taken ++ items
    pub from : AreFrom senders all
    pub fits : (pass : ℕ) (v : Known T) → get_elem? views pass ≡ some v → Fits taker senders holder all taken pass v

  abbrev pub joined_by : Got T → Known T → Known T
  joined_by v (Sender w) = Taker (record v { joined = w.put ∷ v.joined })
  joined_by v (Taker w) = Taker v
  joined_by v Nothing = Taker v

  abbrev pub joined : Known T → Known T → Known T
  joined (Taker v) w = joined_by v w
  joined (Sender v) w = Sender v
  joined Nothing w = Nothing
