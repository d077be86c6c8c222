-- What holds of elements at their places.
use Rattle.std.proofs.Common.{◌≡◌, ◌∙◌, refl, sym, ap, subst, ℕ, zero, suc, ◌+◌, ◌<◌, List, [], ◌∷◌, ◌++◌, length, map, Some, get_or, drop, arith}
use Rattle.std.specs.Prelude.{All, slice_get}
use Rattle.gate_run_threads.specs.Lists.{Pairwise, Each, EachAt}

pub head_same : {X : Type 0} (x y : X) (xs ys : List X) → x ∷ xs ≡ y ∷ ys → x ≡ y
head_same x y xs ys e = ap (λ l. get_or l 0 x) e

pub tail_same : {X : Type 0} (x y : X) (xs ys : List X) → x ∷ xs ≡ y ∷ ys → xs ≡ ys
tail_same x y xs ys e = ap (drop 1) e

pub the_same : {X : Type 0} (x y : X) → Some x ≡ Some y → x ≡ y
the_same x y e = cc

module _ {A : Type 0} where
  pub each_front : (P : A → Type 0) (xs ys : List A) → Each P (xs ++ ys) → Each P xs
  each_front P [] ys all = tt
  each_front P (x ∷ xs) ys all = (all.0, each_front P xs ys all.1)

  -- of one more
  pub each_last : (P : A → Type 0) (xs : List A) (x : A) → Each P (xs ++ x ∷ []) → Each P xs × P x
  each_last P [] x all = (tt, all.0)
  each_last P (y ∷ xs) x all = let (front, last) = each_last P xs x all.1 in ((all.0, front), last)

  pub each_of_all : (P : A → Type 0) (xs : List A) → All P xs → Each P xs
  each_of_all P [] all = tt
  each_of_all P (x ∷ xs) all = (all 0 x (omega arith), each_of_all P xs (λ k d low. all (suc k) d (omega (arith, low))))

  pub each_here : (P : A → Type 0) (xs : List A) (i : ℕ) (x : A) → Each P xs → slice_get xs i ≡ Some x → P x
  each_here P [] i x all e = absurd (cc)
  each_here P (y ∷ xs) zero x all e = subst P (the_same y x e) all.0
  each_here P (y ∷ xs) (suc i) x all e = each_here P xs i x all.1 e

  pub at_here : (P : ℕ → A → Type 0) (xs : List A) (i : ℕ) (x : A) → EachAt P xs → slice_get xs i ≡ Some x → P i x
  at_here P [] i x all e = absurd (cc)
  at_here P (y ∷ xs) zero x all e = subst (P 0) (the_same y x e) all.0
  at_here P (y ∷ xs) (suc i) x all e = at_here (λ k. P (suc k)) xs i x all.1 e

  -- one more
  pub at_more : (P : ℕ → A → Type 0) (xs : List A) (x : A) → EachAt P xs → P (length xs) x → EachAt P (xs ++ x ∷ [])
  at_more P [] x all here = (here, tt)
  at_more P (y ∷ xs) x all here = (all.0, at_more (λ k. P (suc k)) xs x all.1 here)

  -- all of them, where that follows at each place
  pub all_of_at : (P : ℕ → A → Type 0) (Q : A → Type 0) → ((k : ℕ) (x : A) → P k x → Q x) → (xs : List A) → EachAt P xs → All Q xs
  all_of_at P Q so [] all k d low = absurd (omega (arith, low))
  all_of_at P Q so (x ∷ xs) all zero d low = so 0 x all.0
  all_of_at P Q so (x ∷ xs) all (suc k) d low = all_of_at (λ i. P (suc i)) Q (λ i. so (suc i)) xs all.1 k d (omega (arith, low))

  pub each_alike : {B : Type 0} (f : A → B) (b : B) (xs : List A) → map f xs ≡ map (λ x. b) xs → Each (λ x. f x ≡ b) xs
  each_alike f b [] e = tt
  each_alike f b (x ∷ xs) e = (head_same (f x) b (map f xs) (map (λ y. b) xs) e, each_alike f b xs (tail_same (f x) b (map f xs) (map (λ y. b) xs) e))

-- the other of a pair
pub record Beside {A B : Type 0} (R : A → B → Type 0) (ys : List B) (i : ℕ) (x : A) : Type 0 where
  pub other : B
  pub there : slice_get ys i ≡ Some other
  pub are : R x other

pub beside : {A B : Type 0} (R : A → B → Type 0) (xs : List A) (ys : List B) (i : ℕ) (x : A) → Pairwise R xs ys → slice_get xs i ≡ Some x → Beside R ys i x
beside R [] ys i x all e = absurd (cc)
beside R (a ∷ xs) [] i x all e = absurd all
beside R (a ∷ xs) (b ∷ ys) zero x all e = record { other = b; there = refl; are = subst (λ z. R z b) (the_same a x e) all.0 }
beside R (a ∷ xs) (b ∷ ys) (suc i) x all e = let next = beside R xs ys i x all.1 e in record { other = next.other; there = next.there; are = next.are }

pub record BesideOf {A B : Type 0} (R : A → B → Type 0) (xs : List A) (i : ℕ) (y : B) : Type 0 where
  pub other : A
  pub there : slice_get xs i ≡ Some other
  pub are : R other y

pub beside_of : {A B : Type 0} (R : A → B → Type 0) (xs : List A) (ys : List B) (i : ℕ) (y : B) → Pairwise R xs ys → slice_get ys i ≡ Some y → BesideOf R xs i y
beside_of R [] [] i y all e = absurd (cc)
beside_of R [] (b ∷ ys) i y all e = absurd all
beside_of R (a ∷ xs) [] i y all e = absurd (cc)
beside_of R (a ∷ xs) (b ∷ ys) zero y all e = record { other = a; there = refl; are = subst (R a) (the_same b y e) all.0 }
beside_of R (a ∷ xs) (b ∷ ys) (suc i) y all e = let next = beside_of R xs ys i y all.1 e in record { other = next.other; there = next.there; are = next.are }

pub as_many : {A B : Type 0} (R : A → B → Type 0) (xs : List A) (ys : List B) → Pairwise R xs ys → length xs ≡ length ys
as_many R [] [] all = refl
as_many R [] (y ∷ ys) all = absurd all
as_many R (x ∷ xs) [] all = absurd all
as_many R (x ∷ xs) (y ∷ ys) all = ap suc (as_many R xs ys all.1)

-- in lists of lists
pub as_long : {A B : Type 0} (R : A → B → Type 0) (xs : List (List A)) (ys : List (List B)) → Pairwise (Pairwise R) xs ys → map length xs ≡ map length ys
as_long R [] [] all = refl
as_long R [] (y ∷ ys) all = absurd all
as_long R (x ∷ xs) [] all = absurd all
as_long R (x ∷ xs) (y ∷ ys) all = (λ i. as_many R x y all.0 i ∷ as_long R xs ys all.1 i)

-- ---- what is left of a list

-- the next of what is left from a place on stands there
pub next_is : {A : Type 0} (all : List A) (n : ℕ) (x : A) (rest : List A) → x ∷ rest ≡ drop n all → slice_get all n ≡ Some x
next_is [] zero x rest e = absurd (cc)
next_is [] (suc n) x rest e = absurd (cc)
next_is (y ∷ all) zero x rest e = ap Some (sym (head_same x y rest all e))
next_is (y ∷ all) (suc n) x rest e = next_is all n x rest e

left_behind : {A : Type 0} (all : List A) (n : ℕ) (x : A) (rest : List A) → x ∷ rest ≡ drop n all → rest ≡ drop (suc n) all
left_behind [] zero x rest e = absurd (cc)
left_behind [] (suc n) x rest e = absurd (cc)
left_behind (y ∷ all) zero x rest e = tail_same x y rest all e
left_behind (y ∷ all) (suc n) x rest e = left_behind all n x rest e

next_place : (n : ℕ) → suc n ≡ n + 1
next_place n = omega arith

pub left_is : {A : Type 0} (all : List A) (n : ℕ) (x : A) (rest : List A) → x ∷ rest ≡ drop n all → rest ≡ drop (n + 1) all
left_is all n x rest e = left_behind all n x rest e ∙ ap (λ m. drop m all) (next_place n)

-- something is left before the end
pub some_left : {A : Type 0} (all rest : List A) (n : ℕ) → rest ≡ drop n all → n < length all → 0 < length rest
some_left [] rest n e low = absurd (omega (arith, low))
some_left (y ∷ all) rest zero e low = subst (λ xs. 0 < length xs) (sym e) (omega arith)
some_left (y ∷ all) rest (suc n) e low = some_left all rest n e (omega (arith, low))
