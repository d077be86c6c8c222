-- What the sides of a run know of what the run was asked for: to stop, and to put later generations of its configuration in force.
use Rattle.std.specs.Prelude.{◌≡◌, ◌<◌, ◌++◌, ◌∷◌, [], ℕ, List, true, is_some, length, nat_lt, if◌then◌else◌}
use Rattle.gate_source.specs.Stops.{Note}
use Rattle.gate_run_posts.specs.declared.asked.RenewPostFault.{RenewPostFault}
use Rattle.gate_run_posts.specs.declared.asked.RenewPostFault.TheVariants.{Last, Memory}
use Rattle.gate_run_reader.specs.Asked.{IsNext}

-- What one side knows: a note of the stop cell; the cells of the generations after the first, in order; and a note for each generation that
-- was asked for, in order
pub record AskedView : Type 0 where
  pub note : Note
  pub cells : List ℕ
  pub asked : List Note

-- the later of two notes knows the cause that the earlier one knew, if it knew one
abbrev pub KnowsStill : Note → Note → Type 0
KnowsStill before after = is_some before.cause ≡ true → after.cause ≡ before.cause

-- if the first note knows a cause to stop, so does the second
abbrev pub knows_as_much : Note → Note → Type 0
knows_as_much note other = is_some note.cause ≡ true → is_some other.cause ≡ true

-- the longer of two lists, or the first where they are equally long
abbrev pub longer : {A : Type 0} → List A → List A → List A
longer xs ys = if nat_lt (length xs) (length ys) then ys else xs

-- the generation after the last that was asked for was asked for, and no other
pub record AsksForNext (cells : List ℕ) (asked asked' : List Note) : Type 0 where
  pub note : Note
  pub next : IsNext cells asked note
  pub more : asked' ≡ asked ++ note ∷ []

-- why the next generation wasn't asked for: there is none, or memory was refused although there is one
abbrev pub MayNotAsk : List ℕ → List Note → RenewPostFault → Type 0
MayNotAsk cells asked Last = length asked ≡ length cells
MayNotAsk cells asked Memory = length asked < length cells
