-- Definitions about generations that private contracts and proofs cite, beside `Generations`.
use Rattle.std.specs.Prelude.{◌≡◌, ◌≢◌, ◌⊎◌, ℕ, zero, suc, List, Option}
use Rattle.gate_config.specs.declared.fault.ConfigFault.{ConfigFault}
use Rattle.gate_config.specs.declared.fault.ConfigFault.TheVariants as config_fault
use Rattle.gate_config.specs.declared.generation_fault.GenerationFault.{GenerationFault}
use Rattle.gate_config.specs.declared.generation_fault.GenerationFault.TheVariants as fault
use Rattle.gate_config.specs.Generations.{FailsBeside, IsFirstToFail}
use Rattle.gate_config.specs.Structure.{Structure}

-- The document fails with this fault, or memory was refused, at any point.
abbrev pub MayFailBeside : Option Structure → List ℕ → ConfigFault → Type 0
MayFailBeside common bytes found = (found ≡ config_fault.Memory) ⊎ FailsBeside common bytes found

-- This is the fault of later documents, which are numbered from 1, or memory was refused.
abbrev pub IsFaultBehind : Option Structure → List (List ℕ) → GenerationFault → Type 0
IsFaultBehind common documents fault.Count = ⊥
IsFaultBehind common documents (fault.Document zero found) = ⊥
IsFaultBehind common documents (fault.Document (suc g) found) = (found ≢ config_fault.Memory) × IsFirstToFail common documents g found
IsFaultBehind common documents fault.Memory = Unit {0}

-- the fault of the document of this number; a refusal of memory is no document's
abbrev pub fault_of : ℕ → ConfigFault → GenerationFault
fault_of g config_fault.Memory = fault.Memory
fault_of g config_fault.NotJson = fault.Document g config_fault.NotJson
fault_of g (config_fault.Shape place) = fault.Document g (config_fault.Shape place)
fault_of g (config_fault.Limit place) = fault.Document g (config_fault.Limit place)
fault_of g (config_fault.Manager place) = fault.Document g (config_fault.Manager place)
fault_of g (config_fault.Attribute place) = fault.Document g (config_fault.Attribute place)
fault_of g (config_fault.Pattern place) = fault.Document g (config_fault.Pattern place)
fault_of g (config_fault.Repeated place) = fault.Document g (config_fault.Repeated place)
