-- Further definitions about `Listened`, which only private contracts and proofs cite.
use Rattle.std.specs.Prelude.{◌≡◌, ◌+◌, ◌<◌, ℕ, List, [], length, Option, Some, None}
use Rattle.std.specs.Io.KnownBytes.{Consumes, IsAtEnd}
use Rattle.gate_record.specs.declared.record.Record.{Record}
use Rattle.gate_source.specs.Splitting.{Feeds}
use Rattle.gate_status.specs.declared.fault.SessionFault.{SessionFault}
use Rattle.gate_status.specs.declared.fault.SessionFault.TheVariants as fault

-- What one read brings, where the splitter keeps these bytes and so many may still be read. Either the reader has ended. Or some bytes
-- came, which use up the room, and the records are those of the lines that they complete.
abbrev pub Hears : Option (List ℕ) × ℕ → Option (List ℕ) → Option (List Record) → Option (List ℕ) → Option (List ℕ) × ℕ → Type 0
Hears kept told None told' kept' = (kept'.0 ≡ kept.0) × Consumes told told' [] × IsAtEnd told'
Hears kept told (Some lines) told' kept' =
    (piece : List ℕ) × (0 < length piece) × (kept'.1 + length piece ≡ kept.1) × Consumes told told' piece × Feeds kept.0 piece lines kept'.0

-- `Read` comes only where the reader has answered one more error
abbrev pub ReadRises : SessionFault → ℕ → ℕ → Type 0
ReadRises fault.Read before after = before < after
ReadRises fault.Write before after = ⊥
ReadRises fault.Memory before after = Unit {0}

-- `Write` comes only where the writer has answered one more error
abbrev pub WriteRises : SessionFault → ℕ → ℕ → Type 0
WriteRises fault.Read before after = ⊥
WriteRises fault.Write before after = before < after
WriteRises fault.Memory before after = ⊥
