-- Laws about entries and records with the generations in force at them.
use Rattle.std.specs.Prelude.{◌≡◌, ◌≤◌, ℕ, List, [], ◌∷◌, ◌++◌, Bool, All, Some, length, slice_get, take}
use Rattle.gate_record.specs.declared.record.Record.{Record}
use Rattle.gate_record.specs.declared.transit.ConnEntry.{ConnEntry}
use Rattle.gate_record.specs.Entries.{AreEntriesOf, beside, generation_behind, with_generations}
use Rattle.gate_record.specs.Prefixes.{IsPrefixOf}

-- These are entries of a connection, and their records are a prefix of the given ones.
pub record AreFirstEntries (entries : List ConnEntry) (records : List (ℕ × Record)) : Type 0 where
  pub first : List (ℕ × Record)
  pub generation : ℕ
  pub closed : Bool
  pub entries_of_first : AreEntriesOf entries first generation closed
  pub is_prefix : IsPrefixOf first records

-- Entries that are put behind others begin with the generation that the others lead to. Of the entries of a connection: the
-- generation in force after them is the number that `AreEntriesOf` gives, and each prefix of them is again a list of entries of a
-- connection, with a prefix of the records.
pub record EntriesHaveGenerations : Type 0 where
  pub joined : (g : ℕ) (entries more : List ConnEntry) → with_generations g (entries ++ more) ≡ with_generations g entries ++ with_generations (generation_behind g entries) more
  pub behind_all : {entries : List ConnEntry} {records : List (ℕ × Record)} {g : ℕ} {closed : Bool} → AreEntriesOf entries records g closed →
      generation_behind 0 entries ≡ g
  pub each_prefix : {entries : List ConnEntry} {records : List (ℕ × Record)} {g : ℕ} {closed : Bool} → AreEntriesOf entries records g closed → (k : ℕ) →
      AreFirstEntries (take k entries) records

-- Of records paired with generations: a record that is put behind others has the last generation, a renewal that is put behind
-- all records changes none of their generations, and each record stands at its number.
pub record RecordsHaveGenerations : Type 0 where
  pub one_record : (renewals : List ℕ) (records : List Record) (line : Record) → All (λ m. m ≤ length records) renewals →
      beside renewals (records ++ line ∷ []) ≡ beside renewals records ++ (length renewals, line) ∷ []
  pub one_renewal : (renewals : List ℕ) (records : List Record) → beside (renewals ++ length records ∷ []) records ≡ beside renewals records
  pub each_record : (renewals : List ℕ) (records : List Record) (n : ℕ) (g : ℕ) (line : Record) → slice_get (beside renewals records) n ≡ Some (g, line) →
      slice_get records n ≡ Some line
