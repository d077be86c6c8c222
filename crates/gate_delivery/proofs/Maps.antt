-- Lists that are gone through with a function that may leave a value out.
use Rattle.std.proofs.Common.{◌≡◌, ◌∙◌, sym, ap, refl, ℕ, suc, ◌+◌, List, [], ◌∷◌, ◌++◌, length, Option, Some, None, add-zero, append-nil, arith}
use Rattle.std.specs.Prelude.{option_and_then, unwrap_or}
use Rattle.std.specs.Option.{option_to_list}
use Rattle.std.specs.List.{filter_map, cons_option, enumerate_from}
use Rattle.std.proofs.lemmas.List.Elements.{filter_map-append}

pub the_same : {X : Type 0} (x y : X) → Some x ≡ Some y → x ≡ y
the_same x y e = ap (λ (o : Option _). unwrap_or o x) e

cons_option-nil : {Y : Type 0} (o : Option Y) → cons_option o [] ≡ option_to_list o
cons_option-nil None = refl
cons_option-nil (Some y) = refl

-- a value more at the end
pub filter_map_push : {X Y : Type 0} (f : X → Option Y) (xs : List X) (x : X) → filter_map f (xs ++ x ∷ []) ≡ filter_map f xs ++ option_to_list (f x)
filter_map_push f xs x = filter_map-append f xs (x ∷ []) ∙ ap (λ zs. filter_map f xs ++ zs) (cons_option-nil (f x))

-- a value more at the end that is left out
pub filter_map_still : {X Y : Type 0} (f : X → Option Y) (xs : List X) (x : X) → f x ≡ None → filter_map f (xs ++ x ∷ []) ≡ filter_map f xs
filter_map_still f xs x e = filter_map_push f xs x ∙ ap (λ o. filter_map f xs ++ option_to_list o) e ∙ append-nil _

pub cons_option_is : {Y : Type 0} (o : Option Y) (ys : List Y) → cons_option o ys ≡ option_to_list o ++ ys
cons_option_is None ys = refl
cons_option_is (Some y) ys = refl

filter_map-cons_option : {Y Z : Type 0} (f : Y → Option Z) (o : Option Y) (ys : List Y) → filter_map f (cons_option o ys) ≡ cons_option (option_and_then f o) (filter_map f ys)
filter_map-cons_option f None ys = refl
filter_map-cons_option f (Some y) ys = refl

-- two functions, one after the other
pub filter_map-filter_map : {X Y Z : Type 0} (f : Y → Option Z) (g : X → Option Y) (xs : List X) → filter_map f (filter_map g xs) ≡ filter_map (λ x. option_and_then f (g x)) xs
filter_map-filter_map f g [] = refl
filter_map-filter_map f g (x ∷ xs) = filter_map-cons_option f (g x) (filter_map g xs) ∙ ap (cons_option (option_and_then f (g x))) (filter_map-filter_map f g xs)

-- the same function, value by value
pub filter_map_same : {X Y : Type 0} (f g : X → Option Y) → ((x : X) → f x ≡ g x) → (xs : List X) → filter_map f xs ≡ filter_map g xs
filter_map_same f g e [] = refl
filter_map_same f g e (x ∷ xs) = ap (λ o. cons_option o (filter_map f xs)) (e x) ∙ ap (cons_option (g x)) (filter_map_same f g e xs)

-- a function that leaves each value out
pub filter_map_none : {X Y : Type 0} (f : X → Option Y) → ((x : X) → f x ≡ None) → (xs : List X) → filter_map f xs ≡ []
filter_map_none f e [] = refl
filter_map_none f e (x ∷ xs) = ap (λ o. cons_option o (filter_map f xs)) (e x) ∙ filter_map_none f e xs

pub enumerate_from-append : {X : Type 0} (n : ℕ) (xs ys : List X) → enumerate_from n (xs ++ ys) ≡ enumerate_from n xs ++ enumerate_from (n + length xs) ys
enumerate_from-append n [] ys = ap (λ m. enumerate_from m ys) (sym (add-zero n))
enumerate_from-append n (x ∷ xs) ys =
    let shifted : (n + 1) + length xs ≡ n + suc (length xs) = omega arith in
    ap (λ zs. (n, x) ∷ zs) (enumerate_from-append (n + 1) xs ys ∙ ap (λ m. enumerate_from (n + 1) xs ++ enumerate_from m ys) shifted)
