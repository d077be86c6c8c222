-- Places in a document: the steps to them, from the whole document on.
use Rattle.std.specs.Prelude.{ℕ, List, [], ◌∷◌, ◌++◌, codes, decimal}
use Rattle.std.specs.List.{flat_map}
use Rattle.gate_config.specs.declared.path.Step.{Step}
use Rattle.gate_config.specs.declared.path.Step.TheVariants.{Member, Item}

-- the place of the whole document
abbrev pub whole : List Step
whole = []

-- the place of the member with this key
abbrev pub below : List Step → List ℕ → List Step
below place key = place ++ Member key ∷ []

-- the place of the item at this position
abbrev pub nth : List Step → ℕ → List Step
nth place position = place ++ Item position ∷ []

-- what is printed of a step: a key as it is, with a text before it, or a position as `[n]`
abbrev pub step_text : List ℕ → Step → List ℕ
step_text before (Member key) = before ++ key
step_text before (Item position) = codes "[" ++ decimal position ++ codes "]"

-- what is printed of a place: its steps, with `.` before each key but that of the first step
abbrev pub place_text : List Step → List ℕ
place_text [] = []
place_text (first ∷ others) = step_text [] first ++ flat_map (step_text (codes ".")) others
