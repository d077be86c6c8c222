-- Definitions about masks that private contracts and proofs cite, beside `Masks`.
use Rattle.std.specs.Prelude.{◌==◌, ℕ, if◌then◌else◌}
use Rattle.gate_lanes.specs.declared.TheConstants.{MARKED}

-- A mark is set where the cell is the id, and stays as it is elsewhere.
abbrev pub marked_too : ℕ → ℕ → ℕ → ℕ
marked_too id mark cell = if cell == id then MARKED else mark
