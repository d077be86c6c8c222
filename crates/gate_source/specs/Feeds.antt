-- What the steps of a feed say of the records that are still to come.
use Rattle.std.specs.Prelude.{◌≡◌, ℕ, ◌+◌, List, [], ◌∷◌, ◌++◌, Option, Some, None}
use Rattle.gate_record.specs.declared.record.Record.{Record}
use Rattle.gate_source.specs.declared.feed.FeedStep.{FeedStep}
use Rattle.gate_source.specs.declared.feed.FeedStep.TheVariants.{Got, Pending, Ended, Fault, Memory}

-- The records that are still to come, where the feed tells them, and `None` where it doesn't
abbrev pub Told : Type 0
Told = Option (List Record)

-- What a step leaves of the records that are to come. A record that comes is the first of them. While nothing comes they stay. A feed that
-- has ended has none. Nothing is said of them after a fault, or where memory was refused, or of a feed that doesn't tell them.
abbrev pub Steps : Told → FeedStep → Told → Type 0
Steps None step after = Unit {0}
Steps (Some lines) (Got line) after = (rest : List Record) × (lines ≡ line ∷ rest) × (after ≡ Some rest)
Steps (Some lines) Pending after = after ≡ Some lines
Steps (Some lines) Ended after = (lines ≡ []) × (after ≡ Some [])
Steps (Some lines) Fault after = Unit {0}
Steps (Some lines) Memory after = Unit {0}

-- how many faults there are after a step
abbrev pub faults_after : FeedStep → ℕ → ℕ
faults_after Fault count = count + 1
faults_after other count = count

-- these are the first of the records that were to come
abbrev pub AreFirst : List Record → Told → Type 0
AreFirst lines None = Unit {0}
AreFirst lines (Some all) = (rest : List Record) × (lines ++ rest ≡ all)

-- these are all the records that were to come, and none is still to come
abbrev pub AreAll : List Record → (before after : Told) → Type 0
AreAll lines None after = Unit {0}
AreAll lines (Some all) after = (lines ≡ all) × (after ≡ Some [])
