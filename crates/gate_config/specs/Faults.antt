-- The first fault of a document, by the list of its checks in reading order.
use Rattle.std.specs.Prelude.{◌≡◌, ◌⊎◌, ℕ, List, [], ◌∷◌, Bool, true, false}
use Rattle.gate_rule.specs.declared.pattern.Pattern.{Pattern}
use Rattle.gate_rule.specs.Built.{IsRefused}
use Rattle.gate_rule.specs.Pattern.{text_of}
use Rattle.gate_config.specs.declared.path.Step.{Step}
use Rattle.gate_config.specs.declared.fault.ConfigFault.{ConfigFault}
use Rattle.gate_config.specs.declared.fault.ConfigFault.TheVariants as fault

-- A check of a document.
pub data Check : Type 0 where
  -- a test, and the fault if it doesn't hold
  Asks : (holds : Bool) → (fault : ConfigFault) → Check
  -- a text that must be built as a pattern, and its place
  Builds : (text : List ℕ) (place : List Step) → Check

-- The test holds; the text was built as a pattern.
abbrev pub Passes : Check → Type 0
Passes (Asks holds fault) = holds ≡ true
Passes (Builds text place) = (pattern : Pattern) × (text_of pattern ≡ text)

-- The check fails with this fault: the test doesn't hold, or `regex` refuses the text. No definition says which texts are too
-- large for `regex`, so any text may be refused that its grammar reads.
abbrev pub Fails : Check → ConfigFault → Type 0
Fails (Asks holds fault) found = (holds ≡ false) × (found ≡ fault)
Fails (Builds text place) found = (found ≡ fault.Pattern place) × IsRefused text

abbrev pub AllPass : List Check → Type 0
AllPass [] = Unit {0}
AllPass (check ∷ checks) = Passes check × AllPass checks

-- This is the fault of the first check that fails: each check before it passes.
abbrev pub IsFirstFault : List Check → ConfigFault → Type 0
IsFirstFault [] found = ⊥
IsFirstFault (check ∷ checks) found = Fails check found ⊎ (Passes check × IsFirstFault checks found)

-- Memory may be refused at any point; each other fault is the first.
abbrev pub IsFaultOf : List Check → ConfigFault → Type 0
IsFaultOf checks found = (found ≡ fault.Memory) ⊎ IsFirstFault checks found
