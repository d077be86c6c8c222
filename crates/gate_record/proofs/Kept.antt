-- The first few of a list that is made by and by.
use Rattle.std.proofs.Common.{◌≡◌, ◌∙◌, ◌<◌, ◌≤◌, ◌++◌, ◌+◌, ℕ, zero, suc, List, [], ◌∷◌, length, take, map, get_or, refl, sym, ap, Option, Some, None, arith, append-nil, append_assoc}
use Rattle.std.specs.List.{filter_map, cons_option}
use Rattle.std.specs.Option.{option_to_list}
use Rattle.std.proofs.lemmas.List.{length-append, length-take, map-append, take_all, take_at, take_more}
use Rattle.std.proofs.lemmas.List.Elements.{filter_map-append}

take-take-append : {A : Type 0} (n : ℕ) (xs ys : List A) → take n (take n xs ++ ys) ≡ take n (xs ++ ys)
take-take-append zero xs ys = refl
take-take-append (suc n) [] ys = refl
take-take-append (suc n) (x ∷ xs) ys = ap (λ rest. x ∷ rest) (take-take-append n xs ys)

one : {B A : Type 0} (f : A → Option B) (x : A) → filter_map f (x ∷ []) ≡ option_to_list (f x)
one {B} f x = by (f x)
  where
    by : (o : Option B) → cons_option o [] ≡ option_to_list o
    by None = refl
    by (Some y) = refl

-- how many are kept
pub few : {A : Type 0} (n : ℕ) (xs : List A) → length (take n xs) ≤ n
few n xs = omega (arith, length-take n xs)

-- there is no place for another
pub full : {A : Type 0} (n : ℕ) (xs ys : List A) → length xs ≤ n → n ≤ length xs → xs ≡ take n (xs ++ ys)
full n xs ys h k = sym (take_at xs ys n (omega arith))

-- there is a place for another, and there is one, or none
pub room : {A : Type 0} (n : ℕ) (xs : List A) (x : A) → length xs < n → xs ++ x ∷ [] ≡ take n (xs ++ x ∷ [])
room n xs x h = sym (take_all n (xs ++ x ∷ []) (omega (arith, length-append xs (x ∷ []))))

pub none : {A : Type 0} (n : ℕ) (xs : List A) → length xs < n → xs ≡ take n (xs ++ [])
none n xs h = sym (append-nil xs) ∙ sym (take_all n (xs ++ []) (omega (arith, length-append xs [])))

-- one more item
pub kept_more : {X A B : Type 0} (n : ℕ) (f : A → Option B) (v : X → A) (items : List X) (i : ℕ) (x : X) → i < length items → x ≡ get_or items i x → take n (take n (filter_map f (map v (take i items))) ++ option_to_list (f (v x))) ≡ take n (filter_map f (map v (take (i + 1) items)))
kept_more n f v items i x h e =
    take-take-append n (filter_map f (map v (take i items))) (option_to_list (f (v x)))
    ∙ ap (take n) (sym (ap (λ l. filter_map f (map v l)) (take_more items i x h) ∙ ap (filter_map f) (map-append v (take i items) (get_or items i x ∷ [])) ∙ filter_map-append f (map v (take i items)) (v (get_or items i x) ∷ []) ∙ ap (λ l. filter_map f (map v (take i items)) ++ l) (one f (v (get_or items i x)) ∙ ap (λ y. option_to_list (f (v y))) (sym e))))

-- one more behind what was kept, and the others behind it
pub kept_next : {B : Type 0} (n : ℕ) (xs : List B) (o : Option B) (rest : List B) → take n (take n (xs ++ option_to_list o) ++ rest) ≡ take n (xs ++ cons_option o rest)
kept_next {B} n xs o rest = take-take-append n (xs ++ option_to_list o) rest ∙ ap (take n) (append_assoc xs (option_to_list o) rest ∙ ap (λ l. xs ++ l) (by o))
  where
    by : (p : Option B) → option_to_list p ++ rest ≡ cons_option p rest
    by None = refl
    by (Some y) = refl

-- nothing more
pub kept_all : {B : Type 0} (n : ℕ) (xs : List B) → length xs ≤ n → xs ≡ take n (xs ++ [])
kept_all n xs h = sym (append-nil xs) ∙ sym (take_all n (xs ++ []) (omega (arith, length-append xs [])))
