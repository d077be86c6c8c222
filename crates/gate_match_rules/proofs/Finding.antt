-- The numbers of texts that pass.
use Rattle.std.proofs.Common.{◌≡◌, ◌∙◌, refl, sym, ap, ℕ, ◌+◌, ◌<◌, ◌≤◌, cond, Bool, true, false, if◌then◌else◌, List, [], ◌∷◌, ◌++◌, map, drop, length, get_or, add-one, append_assoc, append-nil}
use Rattle.std.specs.Prelude.{filter}
use Rattle.std.specs.List.{enumerate_from}
use Rattle.std.proofs.Math.Seq.{drop-cons}
use Rattle.std.proofs.lemmas.List.{drop_all}
use Rattle.gate_intern.specs.Marks.{numbers_from}

-- the first key's number stands first where the key passes
one_key : {A : Type 0} (test : A → Bool) (key : A) (keys : List A) (n : ℕ) →
    numbers_from n test (key ∷ keys) ≡ (if test key then n ∷ numbers_from (n + 1) test keys else numbers_from (n + 1) test keys)
one_key {A} test key keys n = by (test key)
  where
    by : (b : Bool) → map (λ (entry : ℕ × A). entry.0) (cond b ((n, key) ∷ filter (λ entry. test entry.1) (enumerate_from (n + 1) keys)) (filter (λ entry. test entry.1) (enumerate_from (n + 1) keys))) ≡ (if b then n ∷ numbers_from (n + 1) test keys else numbers_from (n + 1) test keys)
    by true = refl
    by false = refl

module _ {R A : Type 0} (text_at : R → A) (texts : List R) (test : A → Bool) where
  abbrev left : ℕ → ℕ → List ℕ
  left id i = numbers_from id test (map text_at (drop i texts))

  next_left : (i : ℕ) (d : R) (id : ℕ) → i < length texts → left id i ≡ (if test (text_at (get_or texts i d)) then id ∷ left (id + 1) (i + 1) else left (id + 1) (i + 1))
  next_left i d id h =
      ap (λ rest. numbers_from id test (map text_at rest)) (drop-cons texts i d h ∙ ap (λ j. get_or texts i d ∷ drop j texts) (sym (add-one i)))
      ∙ one_key test (text_at (get_or texts i d)) (map text_at (drop (i + 1) texts)) id

  -- one text more, which passes or not
  pub found_more : (i : ℕ) (d : R) (ids all : List ℕ) (id next : ℕ) → i < length texts → next ≡ id + 1 → test (text_at (get_or texts i d)) ≡ true →
      ids ++ numbers_from (id + 1) test (map text_at (drop i texts)) ≡ all → (ids ++ next ∷ []) ++ numbers_from (next + 1) test (map text_at (drop (i + 1) texts)) ≡ all
  found_more i d ids all id next h e passes was =
      append_assoc ids (next ∷ []) (left (next + 1) (i + 1))
      ∙ ap (λ n. ids ++ n ∷ left (n + 1) (i + 1)) e
      ∙ sym (ap (λ xs. ids ++ xs) (next_left i d (id + 1) h ∙ ap (λ (b : Bool). if b then (id + 1) ∷ left (id + 1 + 1) (i + 1) else left (id + 1 + 1) (i + 1)) passes))
      ∙ was

  pub missed_more : (i : ℕ) (d : R) (ids all : List ℕ) (id next : ℕ) → i < length texts → next ≡ id + 1 → test (text_at (get_or texts i d)) ≡ false →
      ids ++ numbers_from (id + 1) test (map text_at (drop i texts)) ≡ all → ids ++ numbers_from (next + 1) test (map text_at (drop (i + 1) texts)) ≡ all
  missed_more i d ids all id next h e fails was =
      ap (λ n. ids ++ left (n + 1) (i + 1)) e
      ∙ sym (ap (λ xs. ids ++ xs) (next_left i d (id + 1) h ∙ ap (λ (b : Bool). if b then (id + 1) ∷ left (id + 1 + 1) (i + 1) else left (id + 1 + 1) (i + 1)) fails))
      ∙ was

  pub numbered_more : (i : ℕ) (d : R) (ids new all : List ℕ) (id next : ℕ) (passes : Bool) → i < length texts → next ≡ id + 1 → new ≡ (if passes then ids ++ next ∷ [] else ids) → passes ≡ test (text_at (get_or texts i d)) →
      ids ++ numbers_from (id + 1) test (map text_at (drop i texts)) ≡ all → new ++ numbers_from (next + 1) test (map text_at (drop (i + 1) texts)) ≡ all
  numbered_more i d ids new all id next true h e is answer was = ap (λ xs. xs ++ left (next + 1) (i + 1)) is ∙ found_more i d ids all id next h e (sym answer) was
  numbered_more i d ids new all id next false h e is answer was = ap (λ xs. xs ++ left (next + 1) (i + 1)) is ∙ missed_more i d ids all id next h e (sym answer) was

  -- no text is left
  pub none_more : (i : ℕ) (ids all : List ℕ) (id : ℕ) → length texts ≤ i → ids ++ numbers_from id test (map text_at (drop i texts)) ≡ all → ids ≡ all
  none_more i ids all id h was =
      sym (ap (λ rest. ids ++ numbers_from id test (map text_at rest)) (drop_all i texts h) ∙ append-nil ids) ∙ was
