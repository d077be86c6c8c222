-- The two ways in which the entries of an attribute are tried on its field.
use Rattle.std.specs.Prelude.{ℕ, List, Bool}
use Rattle.gate_rule.specs.declared.entry.Entry.{Entry}
use Rattle.gate_rule.specs.declared.reach.Reach.{Reach}
use Rattle.gate_rule.specs.declared.reach.Reach.TheVariants.{Front, Within}
use Rattle.gate_rule.specs.Entry.{entry_front, entry_within}

abbrev pub tried : Reach → Entry → List ℕ → Bool
tried Front = entry_front
tried Within = entry_within
