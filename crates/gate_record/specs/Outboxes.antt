-- What contracts see of an outbox.
use Rattle.std.specs.Prelude.{List, [], ◌∷◌, Option, Some, None}

-- What is to be handed on, each item with its receiver, in order; and the receiver of the item that is out, while nobody has said what
-- became of it.
pub record Unsent (R T : Type 0) : Type 0 where
  pub items : List (R × T)
  pub out : Option R

module _ {R T : Type 0} where
  -- the first item is moved out, if there is one
  abbrev pub moved_out : List (R × T) → Unsent R T → Unsent R T × Option (R × T)
  moved_out [] unsent = (unsent, None)
  moved_out (first ∷ items) unsent = (record { items = items; out = Some first.0 }, Some first)

  -- this item takes the place of the one that is out
  abbrev pub put_back : T → Option R → Unsent R T → Unsent R T
  put_back item None unsent = unsent
  put_back item (Some receiver) unsent = record { items = (receiver, item) ∷ unsent.items; out = None }
