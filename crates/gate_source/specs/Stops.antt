-- What contracts see of a stop cell's notes.
use Rattle.std.specs.Prelude.{◌≡◌, ℕ, IfSome, Option, Some}
use Rattle.gate_source.specs.declared.stop.StopCause.{StopCause}

-- A note: which cell gave it, and the cause that it knows, if it knows one
pub record Note : Type 0 where
  pub cell : ℕ
  pub cause : Option StopCause

-- the note is one of this cell's
abbrev pub IsNoteOf : ℕ → Note → Type 0
IsNoteOf cell note = note.cell ≡ cell

-- the note knows this cause now, and knew no other
pub record Learns (old : Note) (cause : StopCause) (new : Note) : Type 0 where
  pub knows : new ≡ record { cell = old.cell; cause = Some cause }
  pub knew : IfSome old.cause (λ known. known ≡ cause)

-- if both notes know a cause, they know the same one
abbrev pub Agree : Note → Note → Type 0
Agree one other = IfSome one.cause (λ cause. IfSome other.cause (λ known. known ≡ cause))
