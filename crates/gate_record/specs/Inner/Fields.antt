-- The fields of an event, as they are borrowed from a tape.
use Rattle.std.specs.Prelude.{◌≡◌, ℕ, ℤ, List, [], ◌∷◌, codes, Option, option_and_then, option_map}
use Rattle.serde_json.specs.Data.{Data}
use Rattle.serde_json.specs.Find.{get}
use Rattle.gate_record.specs.Approvals.{category}
use Rattle.gate_record.specs.Json.{number_at, text_at}
use Rattle.gate_record.specs.Reading.{account_of, account_text, project_of}
use Rattle.gate_record.specs.declared.fields.Fields.{Fields}

-- the account at this key, if there is a key
abbrev pub account_in : Option (List ℕ) → Data → Option Data
account_in name value = option_and_then (λ key. get key value) name

-- These are the texts and numbers of the event that a value of this type is read as.
pub record AreFields (value : Data) (kind : List ℕ) (fields : Fields) : Type 0 where
  pub project : option_map (λ t. t.now) fields.project ≡ project_of value
  pub branch : option_map (λ t. t.now) fields.branch ≡ text_at (codes "change" ∷ codes "branch" ∷ []) value
  pub change : fields.change ≡ number_at (codes "change" ∷ codes "number" ∷ []) value
  pub patchset : fields.patchset ≡ number_at (codes "patchSet" ∷ codes "number" ∷ []) value
  pub refname : option_map (λ t. t.now) fields.refname ≡ text_at (codes "refUpdate" ∷ codes "refName" ∷ []) value
  pub newrev : option_map (λ t. t.now) fields.newrev ≡ text_at (codes "refUpdate" ∷ codes "newRev" ∷ []) value
  pub comment : option_map (λ t. t.now) fields.comment ≡ text_at (codes "comment" ∷ []) value
  pub username : option_map (λ t. t.now) fields.username ≡ account_text (account_of kind) (codes "username") value
  pub email : option_map (λ t. t.now) fields.email ≡ account_text (account_of kind) (codes "email") value

-- the approval of a label and a vote, where there are both
abbrev pub labelled : Option (List ℕ) → Option ℤ → Option (List ℕ × ℤ)
labelled label vote = option_and_then (λ name. option_map (λ vote'. (name, vote')) vote) (option_map category label)
