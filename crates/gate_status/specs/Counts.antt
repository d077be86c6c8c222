-- Readers and writers whose errors are counted.
use Rattle.std.specs.Prelude.{ℕ, ◌+◌, ◌-◌, ◌^◌, min, Result, Ok, Err}

-- a reader or a writer, and how many of its calls have answered an error
pub record Device (D : Type 0) : Type 0 where
  pub device : D
  pub faults : ℕ

-- the count after a call: one more where the answer is an error, up to 2^64 - 1
abbrev pub counted : {T E : Type 0} → Result T E → ℕ → ℕ
counted (Ok value) faults = faults
counted (Err error) faults = min (faults + 1) (2 ^ 64 - 1)
