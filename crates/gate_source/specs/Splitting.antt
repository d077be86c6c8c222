-- What a splitter keeps of the stream that it was fed, and what its calls promise.
use Rattle.std.specs.Prelude.{◌≡◌, ◌+◌, ℕ, List, ◌++◌, length, nat_lt, Option, Some, None, if◌then◌else◌}
use Rattle.std.specs.Option.{option_to_list}
use Rattle.gate_record.specs.declared.record.Record.{Record}
use Rattle.gate_record.specs.Limits.{longest_line}
use Rattle.gate_record.specs.Lines.{ended_records, records_of, unfinished_line}

-- What is kept of a line that hasn't ended: its bytes, up to one above the limit (a CR may belong to the line's end). Nothing is kept of a
-- longer line.
abbrev pub kept_of : List ℕ → Option (List ℕ)
kept_of line = if nat_lt (longest_line + 1) (length line) then None else Some line

-- a splitter that keeps these bytes was fed those
abbrev pub IsFed : List ℕ → Option (List ℕ) → Type 0
IsFed bytes kept = kept ≡ kept_of (unfinished_line bytes)

-- Whatever was fed before: the records that the splitter gave before were those of the lines that had ended, and these are those of the
-- lines that end with this piece.
abbrev pub Feeds : Option (List ℕ) → (piece : List ℕ) → List Record → Option (List ℕ) → Type 0
Feeds kept piece records kept' =
    (bytes : List ℕ) → IsFed bytes kept → IsFed (bytes ++ piece) kept' × (ended_records bytes ++ records ≡ ended_records (bytes ++ piece))

-- whatever was fed before: the records of the lines that had ended, with this one, are those of the whole text
abbrev pub Finishes : Option (List ℕ) → Option Record → Type 0
Finishes kept last = (bytes : List ℕ) → IsFed bytes kept → ended_records bytes ++ option_to_list last ≡ records_of bytes
