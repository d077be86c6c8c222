-- What has the faults that the program tells.
use Rattle.std.specs.Prelude.{◌≡◌, ◌⊎◌, ℕ, List, [], ◌∷◌, Option, Some, None, ⊤}
use Rattle.gate_core.specs.Replays.{FailsReplay}
use Rattle.gate_core.specs.declared.replaying.ReplayFault.{ReplayFault}
use Rattle.gate_main_command.specs.declared.fault.Fault.{Fault}
use Rattle.gate_main_command.specs.declared.fault.Fault.TheVariants as fault
use Rattle.gate_main_command.specs.Faults.{of_replay}
use Rattle.gate_main_command.specs.Printed.{IsCut}

-- The fault is neither one of documents nor one of a script.
abbrev pub IsElsewhere : Fault → Type 0
IsElsewhere (fault.Generations found) = ⊥
IsElsewhere (fault.Script line) = ⊥
IsElsewhere other = ⊤

-- `replay` of these documents and this script has this fault.
pub record HasReplayFault (documents : List (List ℕ)) (script : List ℕ) (found : Fault) : Type 0 where
  pub own : ReplayFault
  pub fails : FailsReplay documents script own
  pub same : found ≡ of_replay own

-- The fault is one of these documents and this script, or it has nothing to do with them.
abbrev pub FailsRightly : List (List ℕ) → List ℕ → Fault → Type 0
FailsRightly documents script found = IsElsewhere found ⊎ HasReplayFault documents script found

-- These bytes of standard input have this fault.
pub record HasInputFault (bytes : List ℕ) (found : Fault) : Type 0 where
  pub configuration : List ℕ
  pub script : List ℕ
  pub cut : IsCut bytes configuration script
  pub faulty : HasReplayFault (configuration ∷ []) script found

-- The bytes have the fault, where they are known.
abbrev pub HasKnownFault : Option (List ℕ) → Fault → Type 0
HasKnownFault None found = Unit {0}
HasKnownFault (Some bytes) found = HasInputFault bytes found

-- The fault is one of these bytes of standard input, or it has nothing to do with them.
abbrev pub FailsInput : Option (List ℕ) → Fault → Type 0
FailsInput bytes found = IsElsewhere found ⊎ HasKnownFault bytes found
