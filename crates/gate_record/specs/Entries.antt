-- The entries of a connection's queue, and the generation of the configuration that is in force at each.
use Rattle.std.specs.Prelude.{ℕ, suc, List, [], ◌∷◌, ◌++◌, Bool, true, false, length, map, fold, nat_le}
use Rattle.std.specs.List.{count_by, enumerate_from}
use Rattle.gate_record.specs.declared.record.Record.{Record}
use Rattle.gate_record.specs.declared.transit.ConnEntry.{ConnEntry}
use Rattle.gate_record.specs.declared.transit.ConnEntry.TheVariants as entry

-- the generation in force after an entry, where g was in force before it
abbrev pub behind : ℕ → ConnEntry → ℕ
behind g (entry.Numbered n line) = g
behind g entry.Renew = suc g
behind g entry.End = g

-- the generation in force after a list of entries, where g was in force before them
abbrev pub generation_behind : ℕ → List ConnEntry → ℕ
generation_behind g entries = fold behind g entries

-- entries, each paired with the generation in force at it, where g is in force at the first
abbrev pub with_generations : ℕ → List ConnEntry → List (ℕ × ConnEntry)
with_generations g [] = []
with_generations g (e ∷ entries) = (g, e) ∷ with_generations (behind g e) entries

-- The entries that a connection has put into its queue. The list holds the records, numbered from 0 in order, each paired with
-- the generation in force at it. The number is the generation in force after all entries. The flag says whether the last entry is
-- the end mark, behind which nothing comes.
pub data AreEntriesOf : List ConnEntry → List (ℕ × Record) → ℕ → Bool → Type 0 where
  begins : AreEntriesOf [] [] 0 false
  accepts : {entries : List ConnEntry} {records : List (ℕ × Record)} {g : ℕ} (line : Record) → AreEntriesOf entries records g false →
      AreEntriesOf (entries ++ entry.Numbered (length records) line ∷ []) (records ++ (g, line) ∷ []) g false
  renews : {entries : List ConnEntry} {records : List (ℕ × Record)} {g : ℕ} → AreEntriesOf entries records g false →
      AreEntriesOf (entries ++ entry.Renew ∷ []) records (suc g) false
  closes : {entries : List ConnEntry} {records : List (ℕ × Record)} {g : ℕ} → AreEntriesOf entries records g false →
      AreEntriesOf (entries ++ entry.End ∷ []) records g true

-- The generation in force at record n. Each number in the list says how many records stand before one renewal, so the generation
-- is the number of renewals that stand before the record.
abbrev pub generation_at : List ℕ → ℕ → ℕ
generation_at renewals n = count_by (λ m. nat_le m n) renewals

-- a record with its number, where the number is replaced by the generation in force at the record
abbrev pub at_generation : List ℕ → ℕ × Record → ℕ × Record
at_generation renewals record' = (generation_at renewals record'.0, record'.1)

-- records, each paired with the generation in force at it
abbrev pub beside : List ℕ → List Record → List (ℕ × Record)
beside renewals records = map (at_generation renewals) (enumerate_from 0 records)
