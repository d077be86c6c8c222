-- Which generations are known to have been asked for.
use Rattle.std.specs.Prelude.{◌≡◌, ℕ, List, All, Some, true, is_some, length, map, slice_get, take}
use Rattle.gate_source.specs.Stops.{Note}

-- These are notes of the first of these cells, in order, and each knows its cause: that generation was asked for.
pub record AreKnown (cells : List ℕ) (notes : List Note) : Type 0 where
  pub of_first : map (λ (note : Note). note.cell) notes ≡ take (length notes) cells
  pub each_knows : All (λ (note : Note). is_some note.cause ≡ true) notes

-- this is a note of the cell after so many notes' cells, and it knows its cause
pub record IsNext (cells : List ℕ) (notes : List Note) (note : Note) : Type 0 where
  pub of_next : slice_get cells (length notes) ≡ Some note.cell
  pub knows : is_some note.cause ≡ true
