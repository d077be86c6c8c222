-- What each thread promised, of all of them.
use Rattle.std.proofs.Common.{◌≡◌, ◌∙◌, refl, sym, ap, subst, ℕ, zero, suc, ◌+◌, ◌<◌, List, [], ◌∷◌, ◌++◌, length, map, slice_index_or, slice_set, append_assoc, arith}
use Rattle.std.specs.List.{range_with_len}
use Rattle.std.specs.Prelude.{All}
use Rattle.gate_run_threads.specs.Lists.{Pairwise}

module _ {A B : Type 0} (R : A → B → Type 0) where
  -- as many of both, and each two at a place are so
  pub paired : (xs : List A) (ys : List B) → length xs ≡ length ys → ((i : ℕ) (x : A) (y : B) → i < length xs → R (slice_index_or xs i x) (slice_index_or ys i y)) → Pairwise R xs ys
  paired [] [] e each = tt
  paired [] (y ∷ ys) e each = absurd (cc)
  paired (x ∷ xs) [] e each = absurd (cc)
  paired (x ∷ xs) (y ∷ ys) e each = (each 0 x y (omega arith), paired xs ys (omega (arith, e)) (λ i a b low. each (suc i) a b (omega (arith, low))))

pub at_map : {A B : Type 0} (f : A → B) (xs : List A) (i : ℕ) (x : A) (y : B) → i < length xs → slice_index_or (map f xs) i y ≡ f (slice_index_or xs i x)
at_map f [] i x y low = absurd (omega (arith, low))
at_map f (z ∷ xs) zero x y low = refl
at_map f (z ∷ xs) (suc i) x y low = at_map f xs i x y (omega (arith, low))

pub map_length : {A B : Type 0} (f : A → B) (xs : List A) → length (map f xs) ≡ length xs
map_length f [] = refl
map_length f (x ∷ xs) = ap suc (map_length f xs)

-- one that was promised, of all of them
pub all_kept : {A B W : Type 0} (R : W → B → Type 0) (f : A → W) (handles : List A) (ends : List B) → length ends ≡ length handles →
    ((i : ℕ) (d : B) → i < length handles → (h : A) × (h ≡ slice_index_or handles i h) × R (f h) (slice_index_or ends i d)) → Pairwise R (map f handles) ends
all_kept R f handles ends e each = paired R (map f handles) ends (map_length f handles ∙ sym e)
    (λ i x y low. let (h, is, kept) = each i y (omega (arith, low, map_length f handles)) in
    subst (λ w. R w (slice_index_or ends i y)) (ap f is ∙ sym (at_map f handles i h x (omega (arith, low, map_length f handles)))) kept)

-- one more was moved over
pub one_moved : {A B : Type 0} (f : A → B) (done done' : List A) (x : A) (y : B) (rest rest' all : List B) → map f done ++ rest ≡ all → rest ≡ y ∷ rest' → f x ≡ y → done' ≡ done ++ x ∷ [] → map f done' ++ rest' ≡ all
one_moved {A = A} f done done' x y rest rest' all before first is more =
    ap (λ xs. map f xs ++ rest') more ∙ moved done ∙ ap (λ zs. map f done ++ zs) (ap (λ z. z ∷ rest') is ∙ sym first) ∙ before
  where
    moved : (xs : List A) → map f (xs ++ x ∷ []) ++ rest' ≡ map f xs ++ f x ∷ rest'
    moved [] = refl
    moved (z ∷ xs) = ap (λ zs. f z ∷ zs) (moved xs)

-- one more was taken from a list of which this is made
pub moved_on : {A B : Type 0} (f : A → B) (done done' : List B) (x : A) (rest rest' : List A) (all : List B) → done ++ map f rest ≡ all → rest ≡ x ∷ rest' → done' ≡ done ++ f x ∷ [] → done' ++ map f rest' ≡ all
moved_on f done done' x rest rest' all before first more =
    ap (λ xs. xs ++ map f rest') more ∙ append_assoc done (f x ∷ []) (map f rest') ∙ ap (λ zs. done ++ map f zs) (sym first) ∙ before

-- of two lists that are the same by what is seen of their elements, two at a place are
pub same_at : {A B C : Type 0} (f : A → C) (g : B → C) (xs : List A) (ys : List B) → map f xs ≡ map g ys → (i : ℕ) (x : A) (y : B) → i < length xs → i < length ys → f (slice_index_or xs i x) ≡ g (slice_index_or ys i y)
same_at f g xs ys e i x y low low' = sym (at_map f xs i x (f x) low) ∙ ap (λ zs. slice_index_or zs i (f x)) e ∙ at_map g ys i y (f x) low'

-- what is seen of a list stays where one element is set to one that is seen alike
pub set_alike : {A C : Type 0} (f : A → C) (xs : List A) (i : ℕ) (y d : A) → i < length xs → f y ≡ f (slice_index_or xs i d) → map f (slice_set xs i y) ≡ map f xs
set_alike f [] i y d low e = absurd (omega (arith, low))
set_alike f (x ∷ xs) zero y d low e = ap (λ z. z ∷ map f xs) e
set_alike f (x ∷ xs) (suc i) y d low e = ap (λ zs. f x ∷ zs) (set_alike f xs i y d (omega (arith, low)) e)

-- to set an element to itself
pub set_itself : {A : Type 0} (xs : List A) (i : ℕ) (y d : A) → i < length xs → y ≡ slice_index_or xs i d → slice_set xs i y ≡ xs
set_itself [] i y d low e = absurd (omega (arith, low))
set_itself (x ∷ xs) zero y d low e = ap (λ z. z ∷ xs) e
set_itself (x ∷ xs) (suc i) y d low e = ap (λ zs. x ∷ zs) (set_itself xs i y d (omega (arith, low)) e)

-- one more of both
pub pairs_more : {A B : Type 0} (R : A → B → Type 0) (xs : List A) (ys : List B) (x : A) (y : B) → Pairwise R xs ys → R x y → Pairwise R (xs ++ x ∷ []) (ys ++ y ∷ [])
pairs_more R [] [] x y all r = (r, tt)
pairs_more R [] (b ∷ ys) x y all r = absurd all
pairs_more R (a ∷ xs) [] x y all r = absurd all
pairs_more R (a ∷ xs) (b ∷ ys) x y all r = (all.0, pairs_more R xs ys x y all.1 r)

-- one more of both lists, by what is seen of their elements
pub seen_more : {A B C D : Type 0} (R : C → D → Type 0) (f : A → C) (g : B → D) (xs xs' : List A) (ys ys' : List B) (x : A) (y : B) → Pairwise R (map f xs) (map g ys) → R (f x) (g y) → xs' ≡ xs ++ x ∷ [] → ys' ≡ ys ++ y ∷ [] → Pairwise R (map f xs') (map g ys')
seen_more {A = A} {B = B} R f g xs xs' ys ys' x y all r more more' =
    subst (λ zs. Pairwise R (map f zs) (map g ys')) (sym more) (subst (λ zs. Pairwise R (map f (xs ++ x ∷ [])) (map g zs)) (sym more')
    (subst (λ zs. Pairwise R zs (map g (ys ++ y ∷ []))) (sym (map_one f xs x)) (subst (λ zs. Pairwise R (map f xs ++ f x ∷ []) zs) (sym (map_one g ys y)) (pairs_more R (map f xs) (map g ys) (f x) (g y) all r))))
  where
    map_one : {X Y : Type 0} (h : X → Y) (zs : List X) (z : X) → map h (zs ++ z ∷ []) ≡ map h zs ++ h z ∷ []
    map_one h [] z = refl
    map_one h (w ∷ zs) z = ap (λ us. h w ∷ us) (map_one h zs z)

-- one more number
pub range_more : (a n : ℕ) → range_with_len a (suc n) ≡ range_with_len a n ++ (a + n) ∷ []
range_more a zero = ap (λ m. m ∷ []) (omega arith)
range_more a (suc n) = ap (λ zs. a ∷ zs) (range_more (a + 1) n ∙ ap (λ m. range_with_len (a + 1) n ++ m ∷ []) (omega arith))

next_number : (n : ℕ) → n + 1 ≡ suc n
next_number n = omega arith

-- one more was made for each number
pub made_more : {A B : Type 0} (f : A → B) (g : ℕ → B) (xs xs' : List A) (x : A) (n : ℕ) → map f xs ≡ map g (range_with_len 0 n) → f x ≡ g n → xs' ≡ xs ++ x ∷ [] → map f xs' ≡ map g (range_with_len 0 (n + 1))
made_more {A} {B} f g xs xs' x n was is more =
    ap (map f) more ∙ map_one f xs x ∙ (λ i. was i ++ is i ∷ []) ∙ sym (map_one g (range_with_len 0 n) n) ∙ ap (map g) (ap (λ m. range_with_len 0 n ++ m ∷ []) (omega arith) ∙ sym (range_more 0 n) ∙ ap (range_with_len 0) (sym (next_number n)))
  where
    map_one : {X : Type 0} (h : X → B) (zs : List X) (z : X) → map h (zs ++ z ∷ []) ≡ map h zs ++ h z ∷ []
    map_one h [] z = refl
    map_one h (w ∷ zs) z = ap (λ us. h w ∷ us) (map_one h zs z)

pub none_left : {A : Type 0} (xs : List A) → length xs ≡ 0 → xs ≡ []
none_left [] e = refl
none_left (x ∷ xs) e = absurd (cc)

-- of a list that is used up, what is of all is of what is left
pub all_behind : {A : Type 0} (x : A) (P : A → Type 0) (xs ys : List A) → ys ≡ x ∷ xs → All P ys → All P xs
all_behind x P xs ys e all k d low = subst (All P) e all (suc k) d (omega (arith, low))
