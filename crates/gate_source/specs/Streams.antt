-- Which records of a stream are still to come while a splitter cuts it.
use Rattle.std.specs.Prelude.{ℕ, List, [], ◌∷◌, ◌++◌, Bool, Option, Some, None, if◌then◌else◌}
use Rattle.std.specs.List.{after_first}
use Rattle.gate_record.specs.declared.record.Record.{Record}
use Rattle.gate_record.specs.declared.record.Record.TheVariants.{Oversize}
use Rattle.gate_record.specs.Lines.{is_line_feed, records_of}
use Rattle.gate_source.specs.Feeds.{Told}

-- The records that are still to come of a stream, where the splitter keeps these bytes of the line that hasn't ended, and the others
-- follow. A line that is too long already is one record, and the others are those after its LF.
abbrev pub still_of : Option (List ℕ) → List ℕ → List Record
still_of (Some line) rest = records_of (line ++ rest)
still_of None rest = Oversize ∷ records_of (after_first is_line_feed rest)

-- The records that are still to come: those that were read and wait, and, unless the stream has ended, those of the bytes that the reader
-- still has to give, where it tells them.
abbrev pub still_told : List Record → Bool → Option (List ℕ) → Option (List ℕ) → Told
still_told waiting has_ended kept None = None
still_told waiting has_ended kept (Some rest) = Some (waiting ++ (if has_ended then [] else still_of kept rest))

-- the records of a whole stream, where its reader tells its bytes
abbrev pub told_of : Option (List ℕ) → Told
told_of None = None
told_of (Some bytes) = Some (records_of bytes)
