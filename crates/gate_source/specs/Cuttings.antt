-- A stream in pieces, and what is true however it is cut.
use Rattle.std.specs.Prelude.{◌≡◌, ℕ, List, [], ◌∷◌, ◌++◌, Option}
use Rattle.std.specs.List.{concat}
use Rattle.std.specs.Option.{option_to_list}
use Rattle.gate_record.specs.declared.record.Record.{Record}
use Rattle.gate_record.specs.Lines.{ended_records, records_of}
use Rattle.gate_source.specs.Splitting.{Feeds, Finishes, IsFed}

-- A new splitter was fed these pieces, one after another. It gave these records, and keeps these bytes
pub data IsSplit : (pieces : List (List ℕ)) → (records : List Record) → (kept : Option (List ℕ)) → Type 0 where
  begins : {kept : Option (List ℕ)} → IsFed [] kept → IsSplit [] [] kept
  feeds : {pieces : List (List ℕ)} {records : List Record} {kept : Option (List ℕ)} (piece : List ℕ) (more : List Record) (kept' : Option (List ℕ)) →
      IsSplit pieces records kept → Feeds kept piece more kept' → IsSplit (pieces ++ piece ∷ []) (records ++ more) kept'

-- whatever the pieces, the records so far are those of the lines that have ended
abbrev pub EndedLinesAreGiven : Type 0
EndedLinesAreGiven = (pieces : List (List ℕ)) (records : List Record) (kept : Option (List ℕ)) →
    IsSplit pieces records kept → records ≡ ended_records (concat pieces)

-- whatever the pieces, the records so far, with the one of the end, are those of the whole text
abbrev pub CuttingDoesNotMatter : Type 0
CuttingDoesNotMatter = (pieces : List (List ℕ)) (records : List Record) (kept : Option (List ℕ)) (last : Option Record) →
    IsSplit pieces records kept → Finishes kept last → records ++ option_to_list last ≡ records_of (concat pieces)
