-- Tables of lists.
use Rattle.std.specs.Prelude.{ℕ, List, [], ◌∷◌, ◌++◌, map}
use Rattle.std.specs.List.{range_with_len}

module _ {A : Type 0} where
  -- so many empty lists
  abbrev pub empties : ℕ → List (List A)
  empties n = map (λ k. []) (range_with_len 0 n)

  -- the columns after one more row was added below
  abbrev pub dealt : List (List A) → List A → List (List A)
  dealt [] row = []
  dealt (column ∷ columns) [] = []
  dealt (column ∷ columns) (x ∷ row) = (column ++ x ∷ []) ∷ dealt columns row

  -- the columns after these rows were added below
  abbrev pub dealt_all : List (List A) → List (List A) → List (List A)
  dealt_all columns [] = columns
  dealt_all columns (row ∷ rows) = dealt_all (dealt columns row) rows
