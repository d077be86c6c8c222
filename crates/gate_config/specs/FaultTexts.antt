-- What is printed of documents that are no configuration.
use Rattle.std.specs.Prelude.{ℕ, zero, suc, List, ◌++◌, codes, decimal}
use Rattle.gate_config.specs.declared.fault.ConfigFault.{ConfigFault}
use Rattle.gate_config.specs.declared.fault.ConfigFault.TheVariants as fault
use Rattle.gate_config.specs.declared.generation_fault.GenerationFault.{GenerationFault}
use Rattle.gate_config.specs.declared.generation_fault.GenerationFault.TheVariants as generation
use Rattle.gate_config.specs.Places.{place_text}

-- the word of a fault, and its place after a space, if the fault has a place
abbrev pub fault_text : ConfigFault → List ℕ
fault_text fault.Memory = codes "memory"
fault_text fault.NotJson = codes "not-json"
fault_text (fault.Shape place) = codes "shape " ++ place_text place
fault_text (fault.Limit place) = codes "limit " ++ place_text place
fault_text (fault.Manager place) = codes "manager " ++ place_text place
fault_text (fault.Attribute place) = codes "attribute " ++ place_text place
fault_text (fault.Pattern place) = codes "pattern " ++ place_text place
fault_text (fault.Repeated place) = codes "repeated " ++ place_text place

-- the text of a document's fault; its number stands before it, unless the document is the first
abbrev pub document_text : ℕ → ConfigFault → List ℕ
document_text zero found = fault_text found
document_text (suc n) found = codes "generation " ++ decimal (suc n) ++ codes " " ++ fault_text found

abbrev pub generation_text : GenerationFault → List ℕ
generation_text generation.Count = codes "generations"
generation_text generation.Memory = codes "memory"
generation_text (generation.Document number found) = document_text number found
