-- Laws about configurations that were read from documents.
use Rattle.std.specs.Prelude.{◌≡◌, ℕ, List, Bool, false, is_some, map, option_map, unwrap_or}
use Rattle.serde_json.specs.Data.{Data}
use Rattle.gate_record.specs.declared.record.Record.{Record}
use Rattle.gate_config.specs.declared.config.Config.{Config}
use Rattle.gate_config.specs.Document.{jobs_among, pipelines_among, rules_among, sources_among, tenants_in}
use Rattle.gate_config.specs.Lookups as lookups
use Rattle.gate_config.specs.Selection.{selects}
use Rattle.gate_config.specs.Texts.{IsReadFrom, texts_of_pipeline, texts_of_rule}

-- Each look-up of the configuration answers what the document says there.
pub record AnswersFor (document : Data) (config : Config) : Type 0 where
  pub lists : (t c : ℕ) → lookups.lists config t c ≡ is_some (sources_among (tenants_in document) t c)
  pub belongs : (t c : ℕ) (project : List ℕ) → lookups.belongs config t c project ≡ unwrap_or (option_map (λ (has : List ℕ → Bool). has project) (sources_among (tenants_in document) t c)) false
  pub pipelines : (t : ℕ) → map texts_of_pipeline (lookups.pipelines_of config t) ≡ pipelines_among (tenants_in document) t
  pub rules : (t p c : ℕ) → map texts_of_rule (lookups.rules_of config t p c) ≡ rules_among (tenants_in document) t p c
  pub jobs : (t p : ℕ) (project : List ℕ) → lookups.jobs_of config t p project ≡ jobs_among (tenants_in document) t p project

abbrev pub LookUpsAreOfTheDocument : Type 0
LookUpsAreOfTheDocument = (document : Data) (config : Config) → IsReadFrom document config → AnswersFor document config

-- Two configurations that were read from one document select the same records.
abbrev pub OneDocumentSelectsAlike : Type 0
OneDocumentSelectsAlike = (document : Data) (a b : Config) → IsReadFrom document a → IsReadFrom document b →
    (t p c : ℕ) (record' : Record) → selects a t p c record' ≡ selects b t p c record'
