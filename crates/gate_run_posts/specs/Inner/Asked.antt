-- Further definitions about `Asked`, which only private contracts and proofs cite.
use Rattle.std.specs.Prelude.{◌≡◌, ℕ, List, [], None, length}
use Rattle.gate_source.specs.Stops.{Note}
use Rattle.gate_run_posts.specs.Asked.{AskedView}

-- a side that knows of no request
abbrev pub nothing_asked : ℕ → List ℕ → AskedView
nothing_asked stop cells = record { note = record { cell = stop; cause = None }; cells = cells; asked = [] }

-- These are both sides of a run that was asked for nothing yet, and that has so many generations after the first
pub record AreSides (later : ℕ) (one other : AskedView) : Type 0 where
  pub stop : ℕ
  pub cells : List ℕ
  pub how_many : length cells ≡ later
  pub knows_nothing : one ≡ nothing_asked stop cells
  pub nor_the_other : other ≡ nothing_asked stop cells
