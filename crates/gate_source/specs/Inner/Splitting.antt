-- Further definitions about `Splitting`, which only private contracts and proofs cite.
use Rattle.std.specs.Prelude.{◌≡◌, ◌+◌, ℕ, List, ◌++◌, All, false, Option, Some, None}
use Rattle.std.specs.Str.Lines.{strip_carriage_return}
use Rattle.gate_record.specs.declared.record.Record.{Record}
use Rattle.gate_record.specs.declared.record.Record.TheVariants.{Oversize}
use Rattle.gate_record.specs.Lines.{is_line_feed, record_of_line}
use Rattle.gate_source.specs.Splitting.{kept_of}

abbrev pub HasNoFeed : List ℕ → Type 0
HasNoFeed bytes = All (λ byte. is_line_feed byte ≡ false) bytes

-- what is kept after more bytes of the line came
abbrev pub kept_with : Option (List ℕ) → List ℕ → Option (List ℕ)
kept_with None more = None
kept_with (Some line) more = kept_of (line ++ more)

-- the record of the kept line, which these bytes end
abbrev pub record_with : Option (List ℕ) → List ℕ → Option Record
record_with None end = Some Oversize
record_with (Some line) end = record_of_line (strip_carriage_return (line ++ end))

-- the record of the kept line, where the stream ends within the line
abbrev pub record_left : Option (List ℕ) → Option Record
record_left None = Some Oversize
record_left (Some line) = record_of_line line
