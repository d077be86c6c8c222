-- Masks over the rows of a batch.
use Rattle.std.proofs.Common.{◌≡◌, ◌∙◌, refl, sym, ap, ap₂, ℕ, ◌+◌, ◌<◌, ◌≤◌, ◌&&◌, ◌||◌, Bool, true, false, not, List, [], ◌∷◌, map, replicate, take, length, get_or, arith}
use Rattle.std.specs.List.{list_all, list_any}
use Rattle.std.proofs.lemmas.Bool.{or_parts}
use Rattle.std.proofs.lemmas.List.Folds.{list_all_more, list_any_more}
use Rattle.std.proofs.lemmas.Simd.{zip2-map}
use Rattle.std.proofs.Math.Bool.{and_assoc}
use Rattle.std.proofs.lemmas.List.{take_all}
use Rattle.gate_match_rules.specs.Marks.{both, either, marks_any, without}

pub map_alike : {A B : Type 0} (f g : A → B) (xs : List A) → ((x : A) → f x ≡ g x) → map f xs ≡ map g xs
map_alike f g [] h = refl
map_alike f g (x ∷ xs) h = ap₂ ◌∷◌ (h x) (map_alike f g xs h)

stays_false : (y f g : Bool) → (y && f) ≡ false → (y && f) ≡ (y && (f && g))
stays_false true f g e = e ∙ sym (ap (λ a. a && g) e)
stays_false false f g e = refl

pub not_true : (b : Bool) → not b ≡ true → b ≡ false
not_true true e = absurd cc
not_true false e = refl

module _ {X : Type 0} where
  pub none_of : (xs : List X) → map (λ (x : X). false) xs ≡ replicate (length xs) false
  none_of [] = refl
  none_of (x ∷ xs) = ap (λ ys. false ∷ ys) (none_of xs)

  -- all rows
  pub both_all : (ys : List Bool) (xs : List X) → length ys ≡ length xs → both ys (map (λ (x : X). true) xs) ≡ ys
  both_all [] xs e = refl
  both_all (y ∷ ys) [] e = absurd (omega (arith, e))
  both_all (y ∷ ys) (x ∷ xs) e = ap₂ ◌∷◌ (and_true y) (both_all ys xs (omega (arith, e)))
    where
      and_true : (b : Bool) → (b && true) ≡ b
      and_true true = refl
      and_true false = refl

  -- one test after another
  pub narrowed_more : (f g : X → Bool) (ys : List Bool) (xs : List X) → both (both ys (map f xs)) (map g xs) ≡ both ys (map (λ x. f x && g x) xs)
  narrowed_more f g [] xs = refl
  narrowed_more f g (y ∷ ys) [] = refl
  narrowed_more f g (y ∷ ys) (x ∷ xs) = ap₂ ◌∷◌ (and_assoc y (f x) (g x)) (narrowed_more f g ys xs)

  -- where no row is left, none is left of a further test
  pub none_left : (f g : X → Bool) (ys : List Bool) (xs : List X) → marks_any (both ys (map f xs)) ≡ false → both ys (map f xs) ≡ both ys (map (λ x. f x && g x) xs)
  none_left f g [] xs e = refl
  none_left f g (y ∷ ys) [] e = refl
  none_left f g (y ∷ ys) (x ∷ xs) e =
      let none = or_parts (y && f x) (marks_any (both ys (map f xs))) e in ap₂ ◌∷◌ (stays_false y (f x) (g x) none.0) (none_left f g ys xs none.1)

  pub without_is : (f : X → Bool) (ys : List Bool) (xs : List X) → without ys (map f xs) ≡ both ys (map (λ x. not (f x)) xs)
  without_is f [] xs = refl
  without_is f (y ∷ ys) [] = refl
  without_is f (y ∷ ys) (x ∷ xs) = ap (λ zs. (y && not (f x)) ∷ zs) (without_is f ys xs)

  pub both_alike : (f g : X → Bool) (ys : List Bool) (xs : List X) → ((x : X) → f x ≡ g x) → both ys (map f xs) ≡ both ys (map g xs)
  both_alike f g ys xs h = ap (both ys) (map_alike f g xs h)

  -- a test for each element of a list, of which one is to pass
  module _ {E : Type 0} (test : E → X → Bool) where
    pub any_begins : (es : List E) (xs : List X) → replicate (length xs) false ≡ map (λ x. list_any (λ e. test e x) (take 0 es)) xs
    any_begins es xs = sym (none_of xs)

    pub any_more : (es : List E) (i : ℕ) (d : E) (xs : List X) → i < length es →
        either (map (λ x. list_any (λ e. test e x) (take i es)) xs) (map (test (get_or es i d)) xs) ≡ map (λ x. list_any (λ e. test e x) (take (i + 1) es)) xs
    any_more es i d xs h =
        zip2-map (λ a b. a || b) (λ x. list_any (λ e. test e x) (take i es)) (test (get_or es i d)) xs
        ∙ map_alike (λ x. list_any (λ e. test e x) (take i es) || test (get_or es i d) x) (λ x. list_any (λ e. test e x) (take (i + 1) es)) xs
        (λ x. sym (list_any_more (λ e. test e x) es i d h))

    pub any_done : (es : List E) (i : ℕ) (xs : List X) → length es ≤ i → map (λ x. list_any (λ e. test e x) (take i es)) xs ≡ map (λ x. list_any (λ e. test e x) es) xs
    any_done es i xs h = ap (λ some. map (λ x. list_any (λ e. test e x) some) xs) (take_all i es h)

    -- and of which all are to pass
    pub all_begins : (es : List E) (ys : List Bool) (xs : List X) → length ys ≡ length xs → ys ≡ both ys (map (λ x. list_all (λ e. test e x) (take 0 es)) xs)
    all_begins es ys xs e = sym (both_all ys xs e)

    pub all_more : (es : List E) (i : ℕ) (d : E) (ys : List Bool) (xs : List X) → i < length es →
        both (both ys (map (λ x. list_all (λ e. test e x) (take i es)) xs)) (map (test (get_or es i d)) xs) ≡ both ys (map (λ x. list_all (λ e. test e x) (take (i + 1) es)) xs)
    all_more es i d ys xs h =
        narrowed_more (λ x. list_all (λ e. test e x) (take i es)) (test (get_or es i d)) ys xs
        ∙ both_alike (λ x. list_all (λ e. test e x) (take i es) && test (get_or es i d) x) (λ x. list_all (λ e. test e x) (take (i + 1) es)) ys xs
        (λ x. sym (list_all_more (λ e. test e x) es i d h))

    pub all_done : (es : List E) (i : ℕ) (ys : List Bool) (xs : List X) → length es ≤ i → both ys (map (λ x. list_all (λ e. test e x) (take i es)) xs) ≡ both ys (map (λ x. list_all (λ e. test e x) es) xs)
    all_done es i ys xs h = ap (λ some. both ys (map (λ x. list_all (λ e. test e x) some) xs)) (take_all i es h)

pub list_any_map : {A B : Type 0} (f : A → B) (p : B → Bool) (xs : List A) → list_any p (map f xs) ≡ list_any (λ x. p (f x)) xs
list_any_map f p [] = refl
list_any_map f p (x ∷ xs) = ap (λ b. p (f x) || b) (list_any_map f p xs)

join_one : (o r f g : Bool) → ((o || (r && f)) || (r && g)) ≡ (o || (r && (f || g)))
join_one true r f g = refl
join_one false true f g = refl
join_one false false f g = refl

or_none : (o r : Bool) → o ≡ (o || (r && false))
or_none true r = refl
or_none false true = refl
or_none false false = refl

module _ {X : Type 0} where
  pub join_begins : (out rows : List Bool) (xs : List X) → length out ≡ length xs → length rows ≡ length xs → out ≡ either out (both rows (map (λ (x : X). false) xs))
  join_begins [] rows xs e h = refl
  join_begins (o ∷ out) [] [] e h = absurd (omega (arith, e))
  join_begins (o ∷ out) [] (x ∷ xs) e h = absurd (omega (arith, h))
  join_begins (o ∷ out) (r ∷ rows) [] e h = absurd (omega (arith, e))
  join_begins (o ∷ out) (r ∷ rows) (x ∷ xs) e h = ap₂ ◌∷◌ (or_none o r) (join_begins out rows xs (omega (arith, e)) (omega (arith, h)))

  join_more : (out rows : List Bool) (f g : X → Bool) (xs : List X) → either (either out (both rows (map f xs))) (both rows (map g xs)) ≡ either out (both rows (map (λ x. f x || g x) xs))
  join_more [] rows f g xs = refl
  join_more (o ∷ out) [] f g xs = refl
  join_more (o ∷ out) (r ∷ rows) f g [] = refl
  join_more (o ∷ out) (r ∷ rows) f g (x ∷ xs) = ap₂ ◌∷◌ (join_one o r (f x) (g x)) (join_more out rows f g xs)

  -- one more test of which one is to pass
  pub joined_more : {E : Type 0} (test : E → X → Bool) (es : List E) (i : ℕ) (d : E) (out rows : List Bool) (xs : List X) → i < length es →
      either (either out (both rows (map (λ x. list_any (λ e. test e x) (take i es)) xs))) (both rows (map (test (get_or es i d)) xs))
      ≡ either out (both rows (map (λ x. list_any (λ e. test e x) (take (i + 1) es)) xs))
  joined_more test es i d out rows xs h =
      join_more out rows (λ x. list_any (λ e. test e x) (take i es)) (test (get_or es i d)) xs
      ∙ ap (λ ys. either out (both rows ys))
      (map_alike (λ x. list_any (λ e. test e x) (take i es) || test (get_or es i d) x) (λ x. list_any (λ e. test e x) (take (i + 1) es)) xs (λ x. sym (list_any_more (λ e. test e x) es i d h)))
