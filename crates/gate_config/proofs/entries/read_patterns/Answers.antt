use Rattle.std.proofs.Common.{◌≡◌, ℕ, List, [], ◌∷◌, Option, Some, None, Result, map, nat_lt, option_map}
use Rattle.serde_json.specs.Data.{Data}
use Rattle.serde_json.specs.View.{view}
use Rattle.gate_rule.specs.declared.entry.Entry.{Entry}
use Rattle.gate_config.specs.declared.fault.ConfigFault.{ConfigFault}
use Rattle.gate_config.specs.declared.fault.ConfigFault.TheVariants.{Limit}
use Rattle.gate_config.specs.declared.path.Step.{Step}
use Rattle.gate_config.specs.Checks.{entry_checks_at, pattern_checks}
use Rattle.gate_config.specs.Document.{entry_in, pattern_texts}
use Rattle.gate_config.specs.Faults.{Asks}
use Rattle.gate_config.specs.Inner.Faults.{Reads}
use Rattle.gate_config.specs.Inner.Listed.{listed_checks, listed_texts}
use Rattle.gate_config.specs.Inner.Steps.{steps_of}
use Rattle.gate_config.specs.Limits.{most_entries}
use Rattle.gate_config.specs.Texts.{texts_of_entry}
use Rattle.gate_config.proofs.entries.read_patterns.Goals as goal

-- an attribute's checks and entries are those of one entry or a list of entries
of_attribute : (place : List Step) (value : Option Data) (r : Result (List Entry) ConfigFault) →
    Reads (listed_checks (λ here count. []) (λ here position. Asks (nat_lt position most_entries) (Limit here) ∷ []) entry_checks_at place value) (λ entries. map texts_of_entry entries ≡ listed_texts entry_in value) r →
    Reads (pattern_checks place value) (λ entries. map texts_of_entry entries ≡ pattern_texts value) r
of_attribute place None r h = h
of_attribute place (Some value) r h = h

pub returns : goal.returns
returns c = of_attribute (steps_of c.args.place.now) (option_map (λ v. view v.now) c.args.value) c.read_one_or_list.result c.read_one_or_list.ensures
