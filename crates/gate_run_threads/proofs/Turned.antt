-- What holds of tables, their rows and their columns.
use Rattle.std.proofs.Common.{◌≡◌, ◌∙◌, refl, sym, ap, ℕ, zero, suc, ◌+◌, List, [], ◌∷◌, ◌++◌, length, map, arith, append-nil, append_assoc}
use Rattle.std.specs.List.{range_with_len}
use Rattle.std.proofs.lemmas.List.{map-append}
use Rattle.gate_run_threads.specs.Lists.{Each, EachAt}
use Rattle.gate_run_threads.specs.Tables.{dealt, dealt_all, empties}
use Rattle.gate_run_threads.proofs.Places.{each_last}

pub map_same : {A B : Type 0} (f g : A → B) → ((x : A) → f x ≡ g x) → (xs : List A) → map f xs ≡ map g xs
map_same f g same [] = refl
map_same f g same (x ∷ xs) = (λ i. same x i ∷ map_same f g same xs i)

-- ---- what is seen of the elements

module _ {A B : Type 0} (f : A → B) where
  dealt_seen : (columns : List (List A)) (row : List A) → map (map f) (dealt columns row) ≡ dealt (map (map f) columns) (map f row)
  dealt_seen [] row = refl
  dealt_seen (column ∷ columns) [] = refl
  dealt_seen (column ∷ columns) (x ∷ row) = (λ i. map-append f column (x ∷ []) i ∷ dealt_seen columns row i)

  pub dealt_all_seen : (columns rows : List (List A)) → map (map f) (dealt_all columns rows) ≡ dealt_all (map (map f) columns) (map (map f) rows)
  dealt_all_seen columns [] = refl
  dealt_all_seen columns (row ∷ rows) = dealt_all_seen (dealt columns row) rows ∙ ap (λ zs. dealt_all zs (map (map f) rows)) (dealt_seen columns row)

-- ---- tables of a function

abbrev empty : {A : Type 0} → ℕ → List A
empty k = []

all_empty : {A Y : Type 0} (a n : ℕ) (ys : List Y) → length ys ≡ n → map (λ k. empty {A = A} k) (range_with_len a n) ≡ map (λ y. []) ys
all_empty {A = A} a zero [] e = refl
all_empty {A = A} a zero (y ∷ ys) e = absurd (cc)
all_empty {A = A} a (suc n) [] e = absurd (cc)
all_empty {A = A} a (suc n) (y ∷ ys) e = ap (λ zs. [] ∷ zs) (all_empty (a + 1) n ys (omega (arith, e)))

module _ {X Y A : Type 0} (f : X → Y → A) where
  dealt_row : (g : Y → List A) (x : X) (ys : List Y) → dealt (map g ys) (map (f x) ys) ≡ map (λ y. g y ++ f x y ∷ []) ys
  dealt_row g x [] = refl
  dealt_row g x (y ∷ ys) = ap (λ zs. (g y ++ f x y ∷ []) ∷ zs) (dealt_row g x ys)

  dealt_table : (g : Y → List A) (xs : List X) (ys : List Y) → dealt_all (map g ys) (map (λ x. map (f x) ys) xs) ≡ map (λ y. g y ++ map (λ x. f x y) xs) ys
  dealt_table g [] ys = map_same g (λ y. g y ++ []) (λ y. sym (append-nil (g y))) ys
  dealt_table g (x ∷ xs) ys =
      ap (λ zs. dealt_all zs (map (λ z. map (f z) ys) xs)) (dealt_row g x ys)
      ∙ dealt_table (λ y. g y ++ f x y ∷ []) xs ys
      ∙ map_same (λ y. (g y ++ f x y ∷ []) ++ map (λ z. f z y) xs) (λ y. g y ++ f x y ∷ map (λ z. f z y) xs) (λ y. append_assoc (g y) (f x y ∷ []) (map (λ z. f z y) xs)) ys

  pub table_turned : (xs : List X) (ys : List Y) (n : ℕ) → length ys ≡ n → dealt_all (empties n) (map (λ x. map (f x) ys) xs) ≡ map (λ y. map (λ x. f x y) xs) ys
  table_turned xs ys n e = ap (λ zs. dealt_all zs (map (λ x. map (f x) ys) xs)) (all_empty 0 n ys e) ∙ dealt_table (λ y. []) xs ys

-- ---- what is true of all columns is true of all rows

pub dealt_length : {A : Type 0} (columns : List (List A)) (row : List A) → length row ≡ length columns → length (dealt columns row) ≡ length columns
dealt_length [] row e = refl
dealt_length (column ∷ columns) [] e = absurd (cc)
dealt_length (column ∷ columns) (x ∷ row) e = ap suc (dealt_length columns row (omega (arith, e)))

module _ {A : Type 0} where
  undealt : (P : ℕ → A → Type 0) (columns : List (List A)) (row : List A) → length row ≡ length columns → EachAt (λ k. Each (P k)) (dealt columns row) → EachAt (λ k. Each (P k)) columns × EachAt P row
  undealt P [] [] e all = (tt, tt)
  undealt P [] (x ∷ row) e all = absurd (cc)
  undealt P (column ∷ columns) [] e all = absurd (cc)
  undealt P (column ∷ columns) (x ∷ row) e all =
      let (own, here) = each_last (P 0) column x all.0 in
      let (others, rest) = undealt (λ k. P (suc k)) columns row (omega (arith, e)) all.1 in
      ((own, others), (here, rest))

  pub by_rows : (P : ℕ → A → Type 0) (n : ℕ) (columns rows : List (List A)) → length columns ≡ n → Each (λ row. length row ≡ n) rows → EachAt (λ k. Each (P k)) (dealt_all columns rows) →
      Each (EachAt P) rows × EachAt (λ k. Each (P k)) columns
  by_rows P n columns [] e wide all = (tt, all)
  by_rows P n columns (row ∷ rows) e wide all =
      let (later, dealt_too) = by_rows P n (dealt columns row) rows (dealt_length columns row (wide.0 ∙ sym e) ∙ e) wide.1 all in
      let (others, here) = undealt P columns row (wide.0 ∙ sym e) dealt_too in
      ((here, later), others)
