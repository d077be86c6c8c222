-- Relations between the elements of lists.
use Rattle.std.specs.Prelude.{◌∷◌, List, [], ℕ, suc}

module _ {A B : Type 0} where
  -- the two lists are equally long, and the elements at each place are related
  abbrev pub Pairwise : (A → B → Type 0) → List A → List B → Type 0
  Pairwise R [] [] = Unit {0}
  Pairwise R [] (y ∷ ys) = ⊥
  Pairwise R (x ∷ xs) [] = ⊥
  Pairwise R (x ∷ xs) (y ∷ ys) = R x y × Pairwise R xs ys

module _ {A : Type 0} where
  -- each element has the property
  abbrev pub Each : (A → Type 0) → List A → Type 0
  Each P [] = Unit {0}
  Each P (x ∷ xs) = P x × Each P xs

  -- each element has the property that belongs to its place
  abbrev pub EachAt : (ℕ → A → Type 0) → List A → Type 0
  EachAt P [] = Unit {0}
  EachAt P (x ∷ xs) = P 0 x × EachAt (λ k. P (suc k)) xs

module _ {A B C : Type 0} where
  -- the three lists are equally long, and the elements at each place are related
  abbrev pub Threes : (A → B → C → Type 0) → List A → List B → List C → Type 0
  Threes R [] [] [] = Unit {0}
  Threes R [] [] (z ∷ zs) = ⊥
  Threes R [] (y ∷ ys) zs = ⊥
  Threes R (x ∷ xs) [] zs = ⊥
  Threes R (x ∷ xs) (y ∷ ys) [] = ⊥
  Threes R (x ∷ xs) (y ∷ ys) (z ∷ zs) = R x y z × Threes R xs ys zs
