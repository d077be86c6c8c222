-- Further definitions about `Feeds`, which only private contracts and proofs cite.
use Rattle.std.specs.Prelude.{◌≡◌, List, ◌++◌, Some, None}
use Rattle.gate_record.specs.declared.record.Record.{Record}
use Rattle.gate_source.specs.Feeds.{Told}

-- these records came, and the rest is still to come
abbrev pub Leaves : Told → List Record → Told → Type 0
Leaves None lines after = Unit {0}
Leaves (Some all) lines after = (rest : List Record) × (after ≡ Some rest) × (lines ++ rest ≡ all)
