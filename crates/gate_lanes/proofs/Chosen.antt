-- Lanes that are chosen by a comparison with one word.
use Rattle.std.proofs.Common.{◌≡◌, ℕ, zero, suc, List, [], ◌∷◌, Bool, ◌||◌, true, false, cond, eqb, map, length, replicate, refl, ap, arith}
use Rattle.std.specs.Simd.Lanes.{zip2, sel_l}
use Rattle.gate_lanes.specs.Masks.{mark_if}
use Rattle.gate_lanes.specs.declared.TheConstants.{MARKED}

-- a, where the key is the word, and else what stood there
pub chosen : (n word a : ℕ) (keys xs : List ℕ) → length keys ≡ n → length xs ≡ n
    → sel_l (zip2 eqb keys (replicate n word)) (replicate n a) xs ≡ zip2 (λ x key. cond (eqb key word) a x) xs keys
chosen zero word a [] [] e h = refl
chosen zero word a [] (x ∷ xs) e h = absurd (omega arith)
chosen zero word a (key ∷ keys) xs e h = absurd (omega arith)
chosen (suc n) word a [] xs e h = absurd (omega arith)
chosen (suc n) word a (key ∷ keys) [] e h = absurd (omega arith)
chosen (suc n) word a (key ∷ keys) (x ∷ xs) e h = ap (λ t. cond (eqb key word) a x ∷ t) (chosen n word a keys xs (omega arith) (omega arith))

pub one_more : (is_marked is_here now : Bool) → now ≡ (is_marked || is_here) → cond is_here MARKED (mark_if is_marked) ≡ mark_if now
one_more true true now e = rw e
one_more true false now e = rw e
one_more false true now e = rw e
one_more false false now e = rw e

-- marks of a test, and then of one word more
pub one_word_more : (n id : ℕ) (f g : ℕ → Bool) → ((w : ℕ) → g w ≡ (f w || eqb w id)) → (column : List ℕ) → length column ≡ n
    → sel_l (zip2 eqb column (replicate n id)) (replicate n MARKED) (map (λ w. mark_if (f w)) column) ≡ map (λ w. mark_if (g w)) column
one_word_more zero id f g more [] e = refl
one_word_more zero id f g more (w ∷ ws) e = absurd (omega arith)
one_word_more (suc n) id f g more [] e = absurd (omega arith)
one_word_more (suc n) id f g more (w ∷ ws) e =
    rw (one_more (f w) (eqb w id) (g w) (more w), one_word_more n id f g more ws (omega arith))

-- the first list doesn't matter
pub of_the_second : (f : ℕ → ℕ) (xs ys : List ℕ) → length xs ≡ length ys → map f ys ≡ zip2 (λ _ y. f y) xs ys
of_the_second f [] [] e = refl
of_the_second f [] (y ∷ ys) e = absurd (omega arith)
of_the_second f (x ∷ xs) [] e = absurd (omega arith)
of_the_second f (x ∷ xs) (y ∷ ys) e = ap (λ t. f y ∷ t) (of_the_second f xs ys (omega arith))
