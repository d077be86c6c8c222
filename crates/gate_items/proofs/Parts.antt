-- What a list has around a place after a write there.
use Rattle.std.proofs.Common.{◌≡◌, ◌+◌, ◌<◌, ℕ, List, [], ◌∷◌, ◌++◌, get_or, length, suc, zero, take, drop, set, refl, arith, subst}
use Rattle.std.proofs.lemmas.List.{drop-set-lt}

pub rest_written : {X : Type 0} (xs : List X) (k : ℕ) (y : X) → drop (k + 1) (set xs k y) ≡ drop (k + 1) xs
rest_written xs k y = drop-set-lt (k + 1) xs k y (omega arith)

-- what stands at k is read there
read_past : {X : Type 0} (xs ys : List X) (k : ℕ) (d : X) → k < length xs → get_or (take (suc k) xs ++ ys) k d ≡ get_or xs k d
read_past [] ys k d h = absurd (omega (arith, h))
read_past (x ∷ xs) ys zero d h = refl
read_past (x ∷ xs) ys (suc k) d h = read_past xs ys k d (omega (arith, h))

pub read_front : {X : Type 0} (xs ys : List X) (k : ℕ) (d : X) → k < length xs → get_or (take (k + 1) xs ++ ys) k d ≡ get_or xs k d
read_front xs ys k d h = let one : suc k ≡ k + 1 = omega arith in subst (λ n. get_or (take n xs ++ ys) k d ≡ get_or xs k d) one (read_past xs ys k d h)
