-- The rule of every queue without a bound. Such a queue may get new passes at any time, and these know nothing. So the first pass knows
-- nothing either, and becomes the taker's by a step of its own.
use Rattle.std.specs.Prelude.{◌≡◌, ℕ, ◌-◌, ◌⊎◌, List, [], ◌∷◌, length}
use mathlib.Core.Option.{some}
use lib.ListN.{get_elem?}
use Rattle.gate_queue.specs.declared.tagged.Tagged.{Tagged}
use Rattle.gate_queue.specs.declared.known.Got.{Got}
use Rattle.gate_queue.specs.declared.known.Known.{Known}
use Rattle.gate_queue.specs.declared.known.Known.TheVariants.{Sender, Taker, Nothing}
use Rattle.gate_queue.specs.Sharing.{Shares}
use Rattle.gate_queue.specs.Inner.Sharing.{newcomer}

module _ {T : Type 0} where
  -- There is no taker yet: no value waits, and no pass knows anything
  pub record IsFresh (items : List (Tagged T)) (views : List (Known T)) : Type 0 where
    pub none_waits : items ≡ []
    pub none_knows : (pass : ℕ) (v : Known T) → get_elem? views pass ≡ some v → v ≡ Nothing
    pub first : get_elem? views 0 ≡ some Nothing

  -- The first pass is the taker's, and the rule of every queue holds
  pub record HasBegun (items : List (Tagged T)) (views : List (Known T)) : Type 0 where
    pub shares : Shares items views
    pub taker : Got T
    pub first : get_elem? views 0 ≡ some (Taker taker)

  abbrev pub SharesFree : List (Tagged T) → List (Known T) → Type 0
  SharesFree items views = IsFresh items views ⊎ HasBegun items views

  abbrev pub begun : Known T → Known T
  begun v = newcomer 0

  abbrev pub rest_of : List (List T) → List (List T)
  rest_of [] = []
  rest_of (l ∷ ls) = ls

  abbrev pub first_of : List (List T) → List T
  first_of [] = []
  first_of (l ∷ ls) = l

  -- what the taker knows after the first seat that was joined is given back
  abbrev pub parted : Known T → Known T
  parted (Taker v) = Taker (record v { joined = rest_of v.joined })
  parted (Sender v) = Sender v
  parted Nothing = Nothing

  abbrev pub first_joined : Known T → Known T
  first_joined (Taker v) = Sender (record { sender = v.senders - length v.joined; senders = v.senders; put = first_of v.joined })
  first_joined (Sender v) = Nothing
  first_joined Nothing = Nothing
