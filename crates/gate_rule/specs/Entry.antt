-- Entries of attributes that list patterns: a pattern or its negation.
use Rattle.std.specs.Prelude.{ℕ, List, Bool, not, if◌then◌else◌}
use Rattle.gate_rule.specs.declared.entry.Entry.{Entry}
use Rattle.gate_rule.specs.Pattern.{front, within}

-- a pattern's answer, inverted where the entry is negated
abbrev pub turned : Bool → Bool → Bool
turned negate found = if negate then not found else found

abbrev pub entry_front : Entry → List ℕ → Bool
entry_front entry text = turned entry.negate (front entry.pattern text)

abbrev pub entry_within : Entry → List ℕ → Bool
entry_within entry text = turned entry.negate (within entry.pattern text)
