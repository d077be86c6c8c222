-- The generations of a configuration, numbered from 0.
use Rattle.std.specs.Prelude.{◌≡◌, ◌≢◌, ◌⊎◌, ℕ, zero, suc, List, [], ◌∷◌, Bool, true, false, ◌&&◌, nat_le, length, Option, Some, option_and_then, option_map, slice_get}
use Rattle.std.specs.Global.{Vec}
use Rattle.serde_json.specs.Data.{Data}
use Rattle.gate_record.specs.Json.{json_of}
use Rattle.gate_config.specs.declared.config.Config.{Config}
use Rattle.gate_config.specs.declared.fault.ConfigFault.{ConfigFault}
use Rattle.gate_config.specs.declared.fault.ConfigFault.TheVariants as config_fault
use Rattle.gate_config.specs.declared.generation_fault.GenerationFault.{GenerationFault}
use Rattle.gate_config.specs.declared.generation_fault.GenerationFault.TheVariants as fault
use Rattle.gate_config.specs.declared.generations.Generations.{Generations}
use Rattle.gate_config.specs.Checks.{checks_of}
use Rattle.gate_config.specs.Faults.{AllPass, IsFirstFault}
use Rattle.gate_config.specs.InForce.{in_force}
use Rattle.gate_config.specs.Limits.{most_generations}
use Rattle.gate_config.specs.Places.{whole}
use Rattle.gate_config.specs.Structure.{Structure, structure_of}
use Rattle.gate_config.specs.Texts.{IsReadFrom}

-- the configuration of a generation; a number out of range means the first
abbrev pub config_at : Generations → ℕ → Config
config_at gens g = in_force gens.first gens.later g

-- how many generations there are, at least one
abbrev pub count_of : Generations → ℕ
count_of gens = suc (length gens.later)

-- ---- reading generations from documents

abbrev pub bytes_of : Vec ℕ → List ℕ
bytes_of document = document.items

-- what the bytes of a document say of what all generations have in common
abbrev pub common_in : List ℕ → Option Structure
common_in bytes = option_map structure_of (json_of bytes)

-- The document passes its own checks, and then has this in common with the others. The first document has its own in common with
-- itself, so only its own checks matter.
abbrev pub PassesBeside : Option Structure → List ℕ → Type 0
PassesBeside common bytes = AllPass (checks_of bytes) × (common_in bytes ≡ common)

-- The document fails with this fault: the first of its own checks that fails, or, if all of these pass and it has something else
-- in common, `Shape` with the empty path.
abbrev pub FailsBeside : Option Structure → List ℕ → ConfigFault → Type 0
FailsBeside common bytes found = IsFirstFault (checks_of bytes) found ⊎ (AllPass (checks_of bytes) × (common_in bytes ≢ common) × (found ≡ config_fault.Shape whole))

-- Document number g fails with this fault, and all documents before it pass.
abbrev pub IsFirstToFail : Option Structure → List (List ℕ) → ℕ → ConfigFault → Type 0
IsFirstToFail common [] g found = ⊥
IsFirstToFail common (bytes ∷ documents) zero found = FailsBeside common bytes found
IsFirstToFail common (bytes ∷ documents) (suc g) found = PassesBeside common bytes × IsFirstToFail common documents g found

-- what all documents must have in common: what the first one says of it
abbrev pub common_of : List (List ℕ) → Option Structure
common_of documents = option_and_then common_in (slice_get documents 0)

-- There may be as many documents as this.
abbrev pub is_count : ℕ → Bool
is_count count = nat_le 1 count && nat_le count most_generations

-- The fault of the documents: `Count`, before any of them is read, or else the fault of the first document that has one. Memory
-- may be refused at any point after the count, and a refusal never stands inside `Document`.
abbrev pub IsFaultAmong : List (List ℕ) → GenerationFault → Type 0
IsFaultAmong documents fault.Count = is_count (length documents) ≡ false
IsFaultAmong documents (fault.Document g found) = (is_count (length documents) ≡ true) × (found ≢ config_fault.Memory) × IsFirstToFail (common_of documents) documents g found
IsFaultAmong documents fault.Memory = is_count (length documents) ≡ true

-- The configuration says what the document of these bytes says.
abbrev pub IsReadFromBytes : List ℕ → Config → Type 0
IsReadFromBytes bytes config = (document : Data) × (json_of bytes ≡ Some document) × IsReadFrom document config

-- Each generation says what its document says.
abbrev pub AreReadFrom : List (List ℕ) → Generations → Type 0
AreReadFrom documents gens = (g : ℕ) (bytes : List ℕ) → slice_get documents g ≡ Some bytes → IsReadFromBytes bytes (config_at gens g)
