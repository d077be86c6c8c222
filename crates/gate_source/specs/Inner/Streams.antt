-- Further definitions about `Streams`, which only private contracts and proofs cite.
use Rattle.std.specs.Prelude.{◌≡◌, ℕ, zero, suc, List, [], ◌∷◌, ◌++◌, Bool, true, false, Option, Some, Result, Ok, Err, take}
use Rattle.gate_record.specs.declared.record.Record.{Record}
use Rattle.gate_source.specs.declared.feed.FeedStep.{FeedStep}
use Rattle.gate_source.specs.declared.feed.FeedStep.TheVariants.{Ended, Fault}
use Rattle.gate_source.specs.Feeds.{Steps}
use Rattle.gate_source.specs.Splitting.{IsFed}
use Rattle.gate_source.specs.Streams.{still_of}

-- the splitter may have been fed just the bytes of the line that it keeps
abbrev pub IsOfLine : Option (List ℕ) → Type 0
IsOfLine kept = (line : List ℕ) → kept ≡ Some line → IsFed line kept

-- the step tells truly what the piece brings, whatever follows the piece in the stream
abbrev pub StepsOver : Option (List ℕ) → (piece : List ℕ) → FeedStep → (waiting : List Record) → Option (List ℕ) → Type 0
StepsOver kept piece step waiting kept' = (rest : List ℕ) → Steps (Some (still_of kept (piece ++ rest))) step (Some (waiting ++ still_of kept' rest))

-- ---- what one read brings

-- The step is a fault.
abbrev pub is_fault : FeedStep → Bool
is_fault Fault = true
is_fault other = false

-- The step is the end.
abbrev pub is_end : FeedStep → Bool
is_end Ended = true
is_end other = false

-- No record is left.
abbrev pub is_empty : List Record → Bool
is_empty [] = true
is_empty (first ∷ others) = false

-- The read gave nothing, and the splitter keeps no bytes that are a record.
abbrev pub ends : {E : Type 0} → Result ℕ E → Option (List ℕ) → Bool
ends (Ok zero) kept = is_empty (still_of kept [])
ends (Ok (suc n)) kept = false
ends (Err error) kept = false

-- the step tells truly what the read brings: the records that its bytes complete, or at the end the last record, or a fault
abbrev pub StepsAfter : {E : Type 0} → Result ℕ E → Option (List ℕ) → (buffer : List ℕ) → FeedStep → (waiting : List Record) → (ended : Bool) → Option (List ℕ) → Type 0
StepsAfter (Ok zero) kept buffer step waiting ended kept' = Steps (Some (still_of kept [])) step (Some []) × (waiting ≡ []) × (ended ≡ true)
StepsAfter (Ok (suc n)) kept buffer step waiting ended kept' = StepsOver kept (take (suc n) buffer) step waiting kept' × (ended ≡ false)
StepsAfter (Err error) kept buffer step waiting ended kept' = step ≡ Fault
