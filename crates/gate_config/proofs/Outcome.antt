-- What a reader of bytes found, and what its document is read as.
use Rattle.std.proofs.Common.{◌≡◌, ℕ, List, Some, Result, map, Ok, Err, sym, subst}
use Rattle.std.specs.Result.{IfOk, IfErr, OnOk}
use Rattle.serde_json.specs.Data.{Data}
use Rattle.gate_record.specs.Json.{json_of}
use Rattle.gate_config.specs.declared.config.Config.{Config}
use Rattle.gate_config.specs.declared.fault.ConfigFault.{ConfigFault}
use Rattle.gate_config.specs.Checks.{checks_of, checks_of_json, document_checks}
use Rattle.gate_config.specs.Document.{connection_names, tenants_in}
use Rattle.gate_config.specs.Faults.{AllPass, IsFaultOf}
use Rattle.gate_config.specs.Inner.Faults.{Reads}
use Rattle.gate_config.specs.Texts.{IsReadFrom, texts_of_tenant}

-- what the reader of a document says
abbrev Said : Data → Config → Type 0
Said d config = (config.connections ≡ connection_names d) × (map texts_of_tenant config.tenants ≡ tenants_in d)

-- the same, of its bytes
pub config_read : (bytes : List ℕ) (d : Data) (r : Result Config ConfigFault) → json_of bytes ≡ Some d → Reads (document_checks d) (Said d) r → IfOk r (λ config. (x : Data) × (json_of bytes ≡ Some x) × IsReadFrom x config)
config_read bytes d (Ok config) e h = (d, e, record { connections = h.1.0; tenants = h.1.1 })
config_read bytes d (Err found) e h = tt

pub config_passed : (bytes : List ℕ) (d : Data) (r : Result Config ConfigFault) → json_of bytes ≡ Some d → Reads (document_checks d) (Said d) r → OnOk r (AllPass (checks_of bytes))
config_passed bytes d (Ok config) e h = subst (λ o. AllPass (checks_of_json o)) (sym e) h.0.all
config_passed bytes d (Err found) e h = tt

pub config_fault : (bytes : List ℕ) (d : Data) (r : Result Config ConfigFault) → json_of bytes ≡ Some d → Reads (document_checks d) (Said d) r → IfErr r (λ found. IsFaultOf (checks_of bytes) found)
config_fault bytes d (Ok config) e h = tt
config_fault bytes d (Err found) e h = subst (λ o. IsFaultOf (checks_of_json o) found) (sym e) h.first
