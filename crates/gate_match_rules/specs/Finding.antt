-- Which texts of a batch meet patterns and entries.
use Rattle.std.specs.Prelude.{◌≡◌, ℕ, List, Bool, map}
use Rattle.gate_record.specs.declared.event.Event.{Event}
use Rattle.gate_rule.specs.declared.entry.Entry.{Entry}
use Rattle.gate_rule.specs.declared.pattern.Pattern.{Pattern}
use Rattle.gate_rule.specs.Entry.{turned}
use Rattle.gate_rule.specs.Pattern.{front, text_of, within}
use Rattle.gate_intern.specs.declared.field.Field.{Field}
use Rattle.gate_intern.specs.declared.field.Field.TheVariants.{Username, Email, Comment}
use Rattle.gate_intern.specs.Columns.{field_of}
use Rattle.gate_intern.specs.Marks.{passes}
use Rattle.gate_match_rules.specs.declared.reach.Reach.{Reach}
use Rattle.gate_match_rules.specs.declared.reach.Reach.TheVariants.{Front, Anywhere}

-- Patterns may match anywhere in an account's texts and in a comment, and only at the front of other fields.
abbrev pub reach_of : Field → Reach
reach_of Username = Anywhere
reach_of Email = Anywhere
reach_of Comment = Anywhere
reach_of other = Front

-- The pattern is found in the text.
abbrev pub finds : Reach → Pattern → List ℕ → Bool
finds Front pattern text = front pattern text
finds Anywhere pattern text = within pattern text

-- The text meets the entry.
abbrev pub entry_meets : Reach → Entry → List ℕ → Bool
entry_meets reach entry text = turned entry.negate (finds reach entry.pattern text)

-- the events that have the field and whose text passes the test
abbrev pub passing_in : Field → (List ℕ → Bool) → List Event → List Bool
passing_in field test events = map (λ event. passes test (field_of field event)) events

-- the events that have the field and whose text meets the entry
abbrev pub met_in : Field → Entry → List Event → List Bool
met_in field entry events = passing_in field (entry_meets (reach_of field) entry) events

-- The property holds of each pattern that is built of this text.
abbrev pub HoldsOfText : List ℕ → (Pattern → Type 0) → Type 0
HoldsOfText text holds = (pattern : Pattern) → text_of pattern ≡ text → holds pattern

-- what an entry asks: its pattern's text, and whether it is negated
abbrev pub texts_of : Entry → List ℕ × Bool
texts_of entry = (text_of entry.pattern, entry.negate)

-- The property holds of each entry that asks this.
abbrev pub HoldsOfEntry : List ℕ × Bool → (Entry → Type 0) → Type 0
HoldsOfEntry texts holds = (entry : Entry) → texts_of entry ≡ texts → holds entry
