-- What stands at the place that a search gives.
use Rattle.std.proofs.Common.{◌≡◌, ◌∙◌, ◌+◌, ◌<◌, ◌≤◌, ℕ, List, [], ◌∷◌, Bool, true, false, cond, Option, Some, None, length, suc, take, drop, get_or, nat_lt, refl, sym, ap, arith, subst}
use Rattle.std.specs.Prelude.{◌||◌, is_some, not, unwrap_or}
use Rattle.std.specs.List.{find, list_any, position, position_or_len, slice_get}
use Rattle.std.proofs.lemmas.Bool.{le-ltb, lt-ltb, ltb-true, ltb-false}
use Rattle.gate_items.specs.declared.item.QueueItem.{QueueItem}
use Rattle.gate_items.specs.Machine.{before, behind}

-- an item that is found stands at place k, and what is before and behind it are the two parts of the list
pub record Stands (found : Option QueueItem) (front rest : List QueueItem) (items : List QueueItem) (k : ℕ) : Type 0 where
  pub inside : k < length items
  pub ahead : front ≡ take k items
  pub after : rest ≡ drop (suc k) items
  pub is : found ≡ slice_get items k

stands_by : (b : Bool) (n : ℕ) (test : QueueItem → Bool) (x : QueueItem) (xs : List QueueItem) → (n < length xs → Stands (find test xs) (before test xs) (behind test xs) xs n) → cond (not b) (1 + n) 0 < length (x ∷ xs) → Stands (cond b (Some x) (find test xs)) (cond b [] (x ∷ before test xs)) (cond b xs (behind test xs)) (x ∷ xs) (cond (not b) (1 + n) 0)
stands_by true n test x xs rest h = record { inside = h; ahead = refl; after = refl; is = refl }
stands_by false n test x xs rest h =
    let s : Stands (find test xs) (before test xs) (behind test xs) xs n = rest (omega (arith, h)) in
    let e : suc n ≡ 1 + n = omega arith in
    subst (λ k. Stands (find test xs) (x ∷ before test xs) (behind test xs) (x ∷ xs) k) e
    (record { inside = omega (arith, s.inside); ahead = ap (λ ys. x ∷ ys) s.ahead; after = s.after; is = s.is })

stands : (test : QueueItem → Bool) (xs : List QueueItem) → position_or_len test xs < length xs → Stands (find test xs) (before test xs) (behind test xs) xs (position_or_len test xs)
stands test [] h = absurd (omega (arith, h))
stands test (x ∷ xs) h = stands_by (test x) (position_or_len test xs) test x xs (stands test xs) h

missing_by : (b : Bool) (n : ℕ) (test : QueueItem → Bool) (x : QueueItem) (xs : List QueueItem) → (length xs ≤ n → find test xs ≡ None) → length (x ∷ xs) ≤ cond (not b) (1 + n) 0 → cond b (Some x) (find test xs) ≡ None
missing_by true n test x xs rest h = absurd (omega (arith, h))
missing_by false n test x xs rest h = rest (omega (arith, h))

missing : (test : QueueItem → Bool) (xs : List QueueItem) → length xs ≤ position_or_len test xs → find test xs ≡ None
missing test [] h = refl
missing test (x ∷ xs) h = missing_by (test x) (position_or_len test xs) test x xs (missing test xs) h

-- the place that is given is the one at which the test passes first
place_is : (b : Bool) (n m k : ℕ) → (b ≡ true → n < m) → Some k ≡ cond b (Some n) None → (n < m) × (n ≡ k)
place_is true n m k below e = (below refl, ap (λ o. unwrap_or o n) (sym e))
place_is false n m k below e = cc

place_first : (test : QueueItem → Bool) (xs : List QueueItem) (k : ℕ) → Some k ≡ position test xs → (position_or_len test xs < length xs) × (position_or_len test xs ≡ k)
place_first test xs k e = place_is (nat_lt (position_or_len test xs) (length xs)) (position_or_len test xs) (length xs) k (ltb-true (position_or_len test xs) (length xs)) e

abbrev pub absent : Option ℕ
absent = None

none_is : (b : Bool) (n m : ℕ) → (b ≡ false → m ≤ n) → absent ≡ cond b (Some n) None → m ≤ n
none_is true n m above e = cc
none_is false n m above e = above refl

none_first : (test : QueueItem → Bool) (xs : List QueueItem) → None ≡ position test xs → length xs ≤ position_or_len test xs
none_first test xs e = none_is (nat_lt (position_or_len test xs) (length xs)) (position_or_len test xs) (length xs) (ltb-false (position_or_len test xs) (length xs)) e

pub stands_at : (test : QueueItem → Bool) (xs : List QueueItem) (k : ℕ) → Some k ≡ position test xs → Stands (find test xs) (before test xs) (behind test xs) xs k
stands_at test xs k e =
    let p : (position_or_len test xs < length xs) × (position_or_len test xs ≡ k) = place_first test xs k e in
    subst (λ n. Stands (find test xs) (before test xs) (behind test xs) xs n) p.1 (stands test xs p.0)

pub stands_nowhere : (test : QueueItem → Bool) (xs : List QueueItem) → None ≡ position test xs → find test xs ≡ None
stands_nowhere test xs e = missing test xs (none_first test xs e)

-- ---- what is found passes

passes_by : (b : Bool) (n : ℕ) (test : QueueItem → Bool) (x : QueueItem) (xs : List QueueItem) (d : QueueItem) → test x ≡ b → (n < length xs → test (get_or xs n d) ≡ true) → cond (not b) (1 + n) 0 < length (x ∷ xs) → test (get_or (x ∷ xs) (cond (not b) (1 + n) 0) d) ≡ true
passes_by true n test x xs d e rest h = e
passes_by false n test x xs d e rest h = let one : suc n ≡ 1 + n = omega arith in subst (λ k. test (get_or (x ∷ xs) k d) ≡ true) one (rest (omega (arith, h)))

passes : (test : QueueItem → Bool) (xs : List QueueItem) (d : QueueItem) → position_or_len test xs < length xs → test (get_or xs (position_or_len test xs) d) ≡ true
passes test [] d h = absurd (omega (arith, h))
passes test (x ∷ xs) d h = passes_by (test x) (position_or_len test xs) test x xs d refl (passes test xs d) h

pub passes_at : (test : QueueItem → Bool) (xs : List QueueItem) (k : ℕ) (d : QueueItem) → Some k ≡ position test xs → test (get_or xs k d) ≡ true
passes_at test xs k d e =
    let p : (position_or_len test xs < length xs) × (position_or_len test xs ≡ k) = place_first test xs k e in
    subst (λ n. test (get_or xs n d) ≡ true) p.1 (passes test xs d p.0)

-- ---- whether it is anywhere

any_by : (b c : Bool) (n m : ℕ) → nat_lt n m ≡ c → nat_lt (cond (not b) (1 + n) 0) (suc m) ≡ (b || c)
any_by true c n m e = lt-ltb 0 (suc m) (omega arith)
any_by false true n m e = let h : n < m = ltb-true n m e in lt-ltb (1 + n) (suc m) (omega (arith, h))
any_by false false n m e = let h : m ≤ n = ltb-false n m e in le-ltb (1 + n) (suc m) (omega (arith, h))

first_inside : (test : QueueItem → Bool) (xs : List QueueItem) → nat_lt (position_or_len test xs) (length xs) ≡ list_any test xs
first_inside test [] = refl
first_inside test (x ∷ xs) = any_by (test x) (list_any test xs) (position_or_len test xs) (length xs) (first_inside test xs)

some_by : (b : Bool) (n : ℕ) → is_some (cond b (Some n) None) ≡ b
some_by true n = refl
some_by false n = refl

pub stands_somewhere : (test : QueueItem → Bool) (xs : List QueueItem) → is_some (position test xs) ≡ list_any test xs
stands_somewhere test xs = some_by (nat_lt (position_or_len test xs) (length xs)) (position_or_len test xs) ∙ first_inside test xs
