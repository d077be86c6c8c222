-- Lists that are joined as far as a place, and one place or one group more.
use Rattle.std.proofs.Common.{◌≡◌, ℕ, zero, suc, ◌+◌, ◌≤◌, ◌<◌, List, [], ◌∷◌, ◌++◌, length, take, drop, get_or, refl, ap, ◌∙◌, ◌-◌, append-nil, length-drop, arith}
use Rattle.std.proofs.lemmas.List.{drop_all, take_rest}
use borrow.Rule.Slice.PartMut.{put_mid}
use Rattle.std.proofs.Math.ListN.{set}
use Rattle.std.specs.Simd.Lanes.{zip2, chunk, put_chunk}

-- joined place by place before the place, and as they were from there on
abbrev pub joined_until : (ℕ → ℕ → ℕ) → ℕ → List ℕ → List ℕ → List ℕ
joined_until f zero xs ys = xs
joined_until f (suc at) [] ys = []
joined_until f (suc at) (x ∷ xs) [] = x ∷ xs
joined_until f (suc at) (x ∷ xs) (y ∷ ys) = f x y ∷ joined_until f at xs ys

pub all_joined : (f : ℕ → ℕ → ℕ) (at : ℕ) (xs ys : List ℕ) → length ys ≡ length xs → length xs ≡ at → joined_until f at xs ys ≡ zip2 f xs ys
all_joined f zero [] ys e h = refl
all_joined f (suc at) [] ys e h = refl
all_joined f at (x ∷ xs) [] e h = absurd (omega arith)
all_joined f zero (x ∷ xs) (y ∷ ys) e h = absurd (omega arith)
all_joined f (suc at) (x ∷ xs) (y ∷ ys) e h = ap (λ t. f x y ∷ t) (all_joined f at xs ys (omega arith) (omega arith))

-- one place more
pub one_joined : (f : ℕ → ℕ → ℕ) (at : ℕ) (xs ys : List ℕ) → length ys ≡ length xs → at < length xs
    → set (joined_until f at xs ys) at (f (get_or (joined_until f at xs ys) at 0) (get_or ys at 0)) ≡ joined_until f (suc at) xs ys
one_joined f at [] ys e h = absurd (omega arith)
one_joined f at (x ∷ xs) [] e h = absurd (omega arith)
one_joined f zero (x ∷ xs) (y ∷ ys) e h = refl
one_joined f (suc at) (x ∷ xs) (y ∷ ys) e h = ap (λ t. f x y ∷ t) (one_joined f at xs ys (omega arith) (omega arith))

front_joined : (f : ℕ → ℕ → ℕ) (n : ℕ) (xs ys : List ℕ) → length ys ≡ length xs → n ≤ length xs
    → put_chunk 0 xs (zip2 f (take n xs) (take n ys)) ≡ joined_until f n xs ys
front_joined f zero [] ys e h = refl
front_joined f zero (x ∷ xs) ys e h = refl
front_joined f (suc n) [] ys e h = absurd (omega arith)
front_joined f (suc n) (x ∷ xs) [] e h = absurd (omega arith)
front_joined f (suc n) (x ∷ xs) (y ∷ ys) e h = ap (λ t. f x y ∷ t) (front_joined f n xs ys (omega arith) (omega arith))

-- one group more
pub group_joined : (f : ℕ → ℕ → ℕ) (at n m : ℕ) (xs ys : List ℕ) → length ys ≡ length xs → m ≡ at + n → m ≤ length xs
    → put_chunk at (joined_until f at xs ys) (zip2 f (chunk at n (joined_until f at xs ys)) (chunk at n ys)) ≡ joined_until f m xs ys
group_joined f zero n m xs ys e i h =
    let k : m ≡ n = omega arith in
    rw k (front_joined f n xs ys e (omega arith))
group_joined f (suc at) n m [] ys e i h = absurd (omega arith)
group_joined f (suc at) n m (x ∷ xs) [] e i h = absurd (omega arith)
group_joined f (suc at) n zero (x ∷ xs) (y ∷ ys) e i h = absurd (omega arith)
group_joined f (suc at) n (suc m) (x ∷ xs) (y ∷ ys) e i h = ap (λ t. f x y ∷ t) (group_joined f at n m xs ys (omega arith) (omega arith) (omega arith))

rest_behind : (f : ℕ → ℕ → ℕ) (at : ℕ) (xs ys : List ℕ) → length ys ≡ length xs → at ≤ length xs
    → take at (joined_until f at xs ys) ++ zip2 f (drop at (joined_until f at xs ys)) (drop at ys) ≡ zip2 f xs ys
rest_behind f zero xs ys e h = refl
rest_behind f (suc at) [] ys e h = absurd (omega arith)
rest_behind f (suc at) (x ∷ xs) [] e h = absurd (omega arith)
rest_behind f (suc at) (x ∷ xs) (y ∷ ys) e h = ap (λ t. f x y ∷ t) (rest_behind f at xs ys (omega arith) (omega arith))

-- what is left, joined and put back
pub rest_joined : (f : ℕ → ℕ → ℕ) (at : ℕ) (xs ys now : List ℕ) → now ≡ joined_until f at xs ys → length ys ≡ length xs → at ≤ length xs
    → put_mid at (length now - at) now (zip2 f (take (length now - at) (drop at now)) (take (length ys - at) (drop at ys))) ≡ zip2 f xs ys
rest_joined f at xs ys now is e h =
    let none : drop (length now - at) (drop at now) ≡ [] = drop_all (length now - at) (drop at now) (omega (arith, length-drop at now)) in
    rw (take_rest now at, take_rest ys at, none, append-nil)
    (ap (λ l. take at l ++ zip2 f (drop at l) (drop at ys)) is ∙ rest_behind f at xs ys e h)
