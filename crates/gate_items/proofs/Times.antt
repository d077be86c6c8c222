-- How often a number stands among the build sets of items.
use Rattle.std.proofs.Common.{◌≡◌, ◌+◌, ◌≤◌, ℕ, List, [], ◌∷◌, ◌++◌, Bool, true, false, cond, Some, length, nat_eq, refl, ap, arith}
use Rattle.std.specs.Prelude.{◌||◌, unwrap_or}
use Rattle.std.specs.List.{filter, find, list_any}
use Rattle.std.proofs.lemmas.Bool.{eqb-true}
use Rattle.gate_items.specs.declared.item.QueueItem.{QueueItem}
use Rattle.gate_items.specs.Machine.{before, behind, has_set}

abbrev pub bit : Bool → ℕ
bit true = 1
bit false = 0

-- one where the set has this number
abbrev pub once : ℕ → ℕ → ℕ
once n set = bit (nat_eq set n)

abbrev pub times : ℕ → List QueueItem → ℕ
times n [] = 0
times n (item ∷ items) = once n item.set + times n items

by_test : (b : Bool) (item : QueueItem) (rest : List QueueItem) (k : ℕ) → length rest ≡ k → length (cond b (item ∷ rest) rest) ≡ bit b + k
by_test true item rest k e = omega (arith, e)
by_test false item rest k e = omega (arith, e)

pub times_filter : (n : ℕ) (items : List QueueItem) → length (filter (has_set n) items) ≡ times n items
times_filter n [] = refl
times_filter n (item ∷ items) = by_test (nat_eq item.set n) item (filter (has_set n) items) (times n items) (times_filter n items)

pub times-append : (n : ℕ) (xs ys : List QueueItem) → times n (xs ++ ys) ≡ times n xs + times n ys
times-append n [] ys = omega arith
times-append n (x ∷ xs) ys = omega (arith, times-append n xs ys)

some_or : (b c : Bool) (k : ℕ) → (b || c) ≡ false → (c ≡ false → k ≡ 0) → bit b + k ≡ 0
some_or true c k e h = cc
some_or false c k e h = omega (arith, h e)

pub times_none : (n : ℕ) (items : List QueueItem) → list_any (has_set n) items ≡ false → times n items ≡ 0
times_none n [] e = refl
times_none n (item ∷ items) e = some_or (nat_eq item.set n) (list_any (has_set n) items) (times n items) e (times_none n items)

none_or : (b c : Bool) (k : ℕ) → bit b + k ≡ 0 → (k ≡ 0 → c ≡ false) → (b || c) ≡ false
none_or true c k e h = absurd (omega (arith, e))
none_or false c k e h = h (omega (arith, e))

pub none_times : (n : ℕ) (items : List QueueItem) → times n items ≡ 0 → list_any (has_set n) items ≡ false
none_times n [] e = refl
none_times n (item ∷ items) e = none_or (nat_eq item.set n) (list_any (has_set n) items) (times n items) e (none_times n items)

-- a set of another number
other : (b : Bool) (n set : ℕ) → (b ≡ true → set ≡ n) → (set ≡ n → ⊥) → bit b ≡ 0
other true n set same differs = absurd (differs (same refl))
other false n set same differs = refl

pub once_other : (n set : ℕ) → (set ≡ n → ⊥) → once n set ≡ 0
once_other n set differs = other (nat_eq set n) n set (eqb-true set n) differs

at_most : (b : Bool) → bit b ≤ 1
at_most true = omega arith
at_most false = omega arith

pub once_most : (n set : ℕ) → once n set ≤ 1
once_most n set = at_most (nat_eq set n)

-- what is found stands between what is before it and what is behind
split_by : (b : Bool) (n : ℕ) (test : QueueItem → Bool) (x item : QueueItem) (xs : List QueueItem) → (find test xs ≡ Some item → times n xs ≡ times n (before test xs) + (once n item.set + times n (behind test xs))) → cond b (Some x) (find test xs) ≡ Some item → once n x.set + times n xs ≡ times n (cond b [] (x ∷ before test xs)) + (once n item.set + times n (cond b xs (behind test xs)))
split_by true n test x item xs rest e =
    let same : x ≡ item = ap (λ o. unwrap_or o x) e in
    let first : once n x.set ≡ once n item.set = ap (λ (y : QueueItem). once n y.set) same in
    omega (arith, first)
split_by false n test x item xs rest e = omega (arith, rest e)

pub times_split : (n : ℕ) (test : QueueItem → Bool) (items : List QueueItem) (item : QueueItem) → find test items ≡ Some item → times n items ≡ times n (before test items) + (once n item.set + times n (behind test items))
times_split n test [] item e = cc
times_split n test (x ∷ xs) item e = split_by (test x) n test x item xs (times_split n test xs item) e
