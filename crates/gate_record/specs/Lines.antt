-- The records of a text: how a stream is cut into lines.
use Rattle.std.specs.Prelude.{◌==◌, ℕ, List, [], ◌∷◌, Bool, length, map, nat_lt, Option, Some, None, if◌then◌else◌}
use Rattle.std.specs.List.{filter_map, slice_split}
use Rattle.std.specs.Str.Lines.{lines, strip_carriage_return}
use Rattle.gate_record.specs.declared.record.Record.{Record}
use Rattle.gate_record.specs.declared.record.Record.TheVariants.{Line, Oversize}
use Rattle.gate_record.specs.Characters.{line_feed}
use Rattle.gate_record.specs.Limits.{longest_line}

-- The record has its bytes: it isn't oversize.
abbrev pub IsLine : Record → Type 0
IsLine (Line bytes) = Unit {0}
IsLine Oversize = ⊥

-- the record of a line without its line end; an empty line is no record
abbrev pub record_of_line : List ℕ → Option Record
record_of_line [] = None
record_of_line (byte ∷ bytes) = if nat_lt longest_line (length (byte ∷ bytes)) then Some Oversize else Some (Line (byte ∷ bytes))

-- The records of a whole text. `lines` cuts the text at each LF, and removes one CR at the end of each line that ends with LF.
-- The rest after the last LF is a line too, taken as it is.
abbrev pub records_of : List ℕ → List Record
records_of bytes = filter_map record_of_line (lines bytes)

abbrev pub is_line_feed : ℕ → Bool
is_line_feed byte = byte == line_feed

abbrev pub all_but_last : List (List ℕ) → List (List ℕ)
all_but_last [] = []
all_but_last (part ∷ []) = []
all_but_last (part ∷ next ∷ parts) = part ∷ all_but_last (next ∷ parts)

abbrev pub last_of : List (List ℕ) → List ℕ
last_of [] = []
last_of (part ∷ []) = part
last_of (part ∷ next ∷ parts) = last_of (next ∷ parts)

-- the finished lines of a text: what stands before each LF, without one CR at its end
abbrev pub ended_lines : List ℕ → List (List ℕ)
ended_lines bytes = map strip_carriage_return (all_but_last (slice_split is_line_feed bytes))

-- the text after the last LF
abbrev pub unfinished_line : List ℕ → List ℕ
unfinished_line bytes = last_of (slice_split is_line_feed bytes)

-- the records of the finished lines
abbrev pub ended_records : List ℕ → List Record
ended_records bytes = filter_map record_of_line (ended_lines bytes)
