-- What holds of the notes of generations that were asked for.
use Rattle.std.proofs.Common.{◌≡◌, subst, sym, ℕ, List, [], ◌∷◌, ◌++◌, length, Some, true, is_some}
use Rattle.std.specs.Prelude.{slice_get}
use Rattle.gate_source.specs.Stops.{Note}
use Rattle.gate_run_reader.specs.Asked.{AreKnown}
use Rattle.gate_run_reader.proofs.Asking.{known_more}

pub known_pushed : (cells : List ℕ) (notes notes' : List Note) (note : Note) → AreKnown cells notes → slice_get cells (length notes) ≡ Some note.cell → is_some note.cause ≡ true → notes' ≡ notes ++ note ∷ [] → AreKnown cells notes'
known_pushed cells notes notes' note known next knows more = subst (AreKnown cells) (sym more) (known_more cells notes note known (record { of_next = next; knows = knows }))
