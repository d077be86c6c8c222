-- What the functions promise that check and read parts of a document, beside `Faults`.
use Rattle.std.specs.Prelude.{List, Result, Ok, Err}
use Rattle.gate_config.specs.declared.fault.ConfigFault.{ConfigFault}
use Rattle.gate_config.specs.Faults.{AllPass, Check, IsFaultOf}

-- `AllPass` and `IsFaultOf` as records, so that a proof can see their lists of checks.
pub record HasPassed (checks : List Check) : Type 0 where
  pub all : AllPass checks

pub record HasFault (checks : List Check) (found : ConfigFault) : Type 0 where
  pub first : IsFaultOf checks found

-- A function that reads a part with these checks: if all pass, it returns a value that has P, and else their first fault.
abbrev pub Reads : {T : Type 0} → List Check → (T → Type 0) → Result T ConfigFault → Type 0
Reads checks P (Ok value) = HasPassed checks × P value
Reads checks P (Err found) = HasFault checks found

-- A function that only checks, and returns nothing.
abbrev pub Tests : {T : Type 0} → List Check → Result T ConfigFault → Type 0
Tests {T} checks result = Reads checks (λ (value : T). Unit {0}) result
