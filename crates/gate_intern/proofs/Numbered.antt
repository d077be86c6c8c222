-- Keys that are put into a list in turn, each once, and the numbers that they have there.
use Rattle.std.proofs.Common.{◌≡◌, ◌∙◌, ◌+◌, ◌||◌, List, [], ◌∷◌, ◌++◌, Bool, true, false, cond, Option, Some, None, map, refl, sym, ap, true≢false, if◌then◌else◌}
use Rattle.std.specs.Prelude.{not}
use Rattle.std.specs.List.{list_any, position_or_len, filter_map, cons_option}
use Rattle.std.proofs.lemmas.List.{map-append}
use Rattle.std.proofs.lemmas.List.Elements.{filter_map-append}
use Rattle.std.proofs.lemmas.List.Folds.{list_any-append}
use Rattle.std.proofs.lemmas.List.Sums.{fold-append}
use Rattle.indexmap.specs.IndexSet.{insert_key, insert_all}
use Rattle.gate_record.specs.EachOnce.{each_once}
use Rattle.gate_intern.specs.Columns.{number_among}

-- ---- one key more

-- what is there already stays where it stands
place_kept : {A : Type 0} (p : A → Bool) (keys : List A) (key : A) → list_any p keys ≡ true → position_or_len p (keys ++ key ∷ []) ≡ position_or_len p keys
place_kept p [] key found = absurd (true≢false (sym found))
place_kept p (x ∷ keys) key found = by (p x) found (place_kept p keys key)
  where
    by : (b : Bool) → (b || list_any p keys) ≡ true → (list_any p keys ≡ true → position_or_len p (keys ++ key ∷ []) ≡ position_or_len p keys) → cond (not b) (1 + position_or_len p (keys ++ key ∷ [])) 0 ≡ cond (not b) (1 + position_or_len p keys) 0
    by true h rest = refl
    by false h rest = ap (λ n. 1 + n) (rest h)

-- what comes last stands at the end, if it isn't there already
place_last : {A : Type 0} (p : A → Bool) (keys : List A) (key : A) → p key ≡ true → position_or_len p (keys ++ key ∷ []) ≡ position_or_len p keys
place_last p [] key passes = ap (λ b. cond (not b) (1 + 0) 0) passes
place_last p (x ∷ keys) key passes = ap (λ n. cond (not (p x)) (1 + n) 0) (place_last p keys key passes)

or_true : (b : Bool) → (b || (true || false)) ≡ true
or_true true = refl
or_true false = refl

module _ {A : Type 0} (same : A → A → Bool) where
  pub insert_kept : (p : A → Bool) (keys : List A) (key : A) → list_any p keys ≡ true → position_or_len p (insert_key same keys key) ≡ position_or_len p keys
  insert_kept p keys key found = by (list_any (same key) keys)
    where
      by : (b : Bool) → position_or_len p (if b then keys else keys ++ key ∷ []) ≡ position_or_len p keys
      by true = refl
      by false = place_kept p keys key found

  pub insert_last : (p : A → Bool) (keys : List A) (key : A) → p key ≡ true → position_or_len p (insert_key same keys key) ≡ position_or_len p keys
  insert_last p keys key passes = by (list_any (same key) keys)
    where
      by : (b : Bool) → position_or_len p (if b then keys else keys ++ key ∷ []) ≡ position_or_len p keys
      by true = refl
      by false = place_last p keys key passes

  pub found_kept : (p : A → Bool) (keys : List A) (key : A) → list_any p keys ≡ true → list_any p (insert_key same keys key) ≡ true
  found_kept p keys key found = by (list_any (same key) keys)
    where
      by : (b : Bool) → list_any p (if b then keys else keys ++ key ∷ []) ≡ true
      by true = found
      by false = list_any-append p keys (key ∷ []) ∙ ap (λ b. b || list_any p (key ∷ [])) found

  pub found_new : (keys : List A) (key : A) → same key key ≡ true → list_any (same key) (insert_key same keys key) ≡ true
  found_new keys key alike = by (list_any (same key) keys) refl
    where
      by : (b : Bool) → list_any (same key) keys ≡ b → list_any (same key) (if b then keys else keys ++ key ∷ []) ≡ true
      by true e = e
      by false e = list_any-append (same key) keys (key ∷ []) ∙ ap (λ b. list_any (same key) keys || (b || false)) alike ∙ or_true (list_any (same key) keys)

  pub found_stays : (p : A → Bool) (keys others : List A) → list_any p keys ≡ true → list_any p (insert_all same keys others) ≡ true
  found_stays p keys [] found = found
  found_stays p keys (other ∷ others) found = found_stays p (insert_key same keys other) others (found_kept p keys other found)

-- ---- keys of elements, of which some have none

-- the key, if there is one, is among the keys
abbrev pub IsIn : {A : Type 0} → (A → A → Bool) → List A → Option A → Type 0
IsIn same keys None = Unit {0}
IsIn same keys (Some key) = list_any (same key) keys ≡ true

abbrev pub AreIn : {A X : Type 0} → (A → A → Bool) → (X → Option A) → List A → List X → Type 0
AreIn same h keys [] = Unit {0}
AreIn same h keys (x ∷ xs) = IsIn same keys (h x) × AreIn same h keys xs

number_kept : {A : Type 0} (same : A → A → Bool) (keys : List A) (key : A) (o : Option A) → IsIn same keys o → number_among same (insert_key same keys key) o ≡ number_among same keys o
number_kept same keys key None is = refl
number_kept same keys key (Some k) is = ap (λ n. n + 1) (insert_kept same (same k) keys key is)

module _ {A X : Type 0} (same : A → A → Bool) (alike : (a : A) → same a a ≡ true) (h : X → Option A) where
  pub all_in : (keys : List A) (xs : List X) → AreIn same h (insert_all same keys (filter_map h xs)) xs
  all_in keys [] = tt
  all_in keys (x ∷ xs) = by (h x) (λ now. all_in now xs)
    where
      by : (o : Option A) → ((now : List A) → AreIn same h (insert_all same now (filter_map h xs)) xs) → IsIn same (insert_all same keys (cons_option o (filter_map h xs))) o × AreIn same h (insert_all same keys (cons_option o (filter_map h xs))) xs
      by None rest = (tt, rest keys)
      by (Some key) rest = (found_stays same (same key) (insert_key same keys key) (filter_map h xs) (found_new same keys key (alike key)), rest (insert_key same keys key))

  numbers_kept : (keys : List A) (key : A) (xs : List X) → AreIn same h keys xs → map (λ x. number_among same (insert_key same keys key) (h x)) xs ≡ map (λ x. number_among same keys (h x)) xs
  numbers_kept keys key [] are = refl
  numbers_kept keys key (x ∷ xs) are =
      ap (λ n. n ∷ map (λ y. number_among same (insert_key same keys key) (h y)) xs) (number_kept same keys key (h x) are.0)
      ∙ ap (λ rest. number_among same keys (h x) ∷ rest) (numbers_kept keys key xs are.1)

  -- the keys of one element more
  more_keys : (xs : List X) (x : X) (o : Option A) → h x ≡ o → each_once same (filter_map h (xs ++ x ∷ [])) ≡ insert_all same (each_once same (filter_map h xs)) (cons_option o [])
  more_keys xs x o e =
      ap (insert_all same []) (filter_map-append h xs (x ∷ []) ∙ ap (λ p. filter_map h xs ++ cons_option p []) e)
      ∙ fold-append (insert_key same) [] (filter_map h xs) (cons_option o [])

  -- an element without a key
  pub keys_none : (xs : List X) (x : X) → h x ≡ None → each_once same (filter_map h (xs ++ x ∷ [])) ≡ each_once same (filter_map h xs)
  keys_none xs x e = more_keys xs x None e

  pub numbers_none : (xs : List X) (x : X) → h x ≡ None → map (λ y. number_among same (each_once same (filter_map h (xs ++ x ∷ []))) (h y)) (xs ++ x ∷ []) ≡ map (λ y. number_among same (each_once same (filter_map h xs)) (h y)) xs ++ 0 ∷ []
  numbers_none xs x e =
      ap (λ keys. map (λ y. number_among same keys (h y)) (xs ++ x ∷ [])) (keys_none xs x e)
      ∙ map-append (λ y. number_among same (each_once same (filter_map h xs)) (h y)) xs (x ∷ [])
      ∙ ap (λ o. map (λ y. number_among same (each_once same (filter_map h xs)) (h y)) xs ++ number_among same (each_once same (filter_map h xs)) o ∷ []) e

  -- and one with a key
  pub keys_some : (xs : List X) (x : X) (key : A) → h x ≡ Some key → each_once same (filter_map h (xs ++ x ∷ [])) ≡ insert_key same (each_once same (filter_map h xs)) key
  keys_some xs x key e = more_keys xs x (Some key) e

  pub numbers_some : (xs : List X) (x : X) (key : A) → h x ≡ Some key → map (λ y. number_among same (each_once same (filter_map h (xs ++ x ∷ []))) (h y)) (xs ++ x ∷ []) ≡ map (λ y. number_among same (each_once same (filter_map h xs)) (h y)) xs ++ (position_or_len (same key) (each_once same (filter_map h xs)) + 1) ∷ []
  numbers_some xs x key e =
      let keys : List A = each_once same (filter_map h xs) in
      ap (λ now. map (λ y. number_among same now (h y)) (xs ++ x ∷ [])) (keys_some xs x key e)
      ∙ map-append (λ y. number_among same (insert_key same keys key) (h y)) xs (x ∷ [])
      ∙ ap (λ front. front ++ number_among same (insert_key same keys key) (h x) ∷ []) (numbers_kept keys key xs (all_in [] xs))
      ∙ ap (λ o. map (λ y. number_among same keys (h y)) xs ++ number_among same (insert_key same keys key) o ∷ []) e
      ∙ ap (λ n. map (λ y. number_among same keys (h y)) xs ++ (n + 1) ∷ []) (insert_last same (same key) keys key (alike key))
