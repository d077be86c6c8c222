-- The length of a phase of a pass.
use Rattle.std.specs.Prelude.{ℕ}

-- how many values are taken in a phase before the next one begins
abbrev pub most_takings : ℕ
most_takings = 256
