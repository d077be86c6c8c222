-- What masks over the columns of a batch mark.
use Rattle.std.proofs.Common.{◌≡◌, ◌∙◌, ℕ, zero, suc, ℤ, ◌+◌, ◌*◌, ◌/◌, ◌<◌, ◌≤◌, ◌==◌, ◌||◌, List, [], ◌∷◌, Bool, true, false, cond, Option, Some, None, length, map, slice_get, refl, sym, ap, subst, arith, add-one, add-zero, zero-add}
use Rattle.std.specs.Str.{bytes_eq}
use Rattle.std.proofs.lemmas.Slice.Eq.{bytes_eq-Decides}
use Rattle.std.specs.Prelude.{not, filter, slice_index}
use Rattle.std.specs.Bool.{Decides, one_answer}
use Rattle.std.specs.List.{enumerate_from, list_any, position_or_len, range_with_len}
use Rattle.std.proofs.Math.Nat.{mul-div_left}
use Rattle.std.proofs.lemmas.Bool.Decides.{Decides-eqb, nat_tests}
use Rattle.std.proofs.lemmas.List.FromFn.{length-range_with_len}
use Rattle.gate_record.specs.declared.event.Event.{Event}
use Rattle.gate_lanes.specs.Masks.{is_among, is_in_row, mark_if}
use Rattle.gate_intern.specs.Columns.{approval_cells_of, approvals_of, field_of, is_same_vote, number_among, slots_of, texts_of}
use Rattle.gate_intern.specs.Marks.{ApprovalsMarkTheirEvents, TextsMarkTheirEvents, numbers_from, numbers_where, passes}
use Rattle.gate_intern.proofs.GivenBack.{alike_by, found_at, same_vote}
use Rattle.gate_intern.proofs.Numbered.{AreIn, IsIn, all_in}
use Rattle.gate_intern.proofs.Rows.{cell_is, enough, inside, vote_is_in}
use Rattle.gate_intern.proofs.Slots.{slots_length}

same_number : (n m : ℕ) → n ≡ m → (n == m) ≡ true
same_number n m e = (Decides-eqb n m).1 e

other_number : (n m : ℕ) → n < m → (n == m) ≡ false
other_number n m l = grind (arith, nat_tests)

other_number_above : (n m : ℕ) → m < n → (n == m) ≡ false
other_number_above n m l = grind (arith, nat_tests)

-- ---- numbers of texts

not_below : {A : Type 0} (test : A → Bool) (keys : List A) (n q : ℕ) → q < n → list_any (λ id. q == id) (numbers_from n test keys) ≡ false
not_below test [] n q l = refl
not_below {A} test (x ∷ keys) n q l = by (test x) (not_below test keys (n + 1) q (omega arith))
  where
    by : (b : Bool) → list_any (λ id. q == id) (numbers_from (n + 1) test keys) ≡ false → list_any (λ id. q == id) (map (λ (entry : ℕ × A). entry.0) (cond b ((n, x) ∷ filter (λ entry. test entry.1) (enumerate_from (n + 1) keys)) (filter (λ entry. test entry.1) (enumerate_from (n + 1) keys)))) ≡ false
    by true rest = ap (λ b. b || list_any (λ id. q == id) (numbers_from (n + 1) test keys)) (other_number q n l) ∙ rest
    by false rest = rest

among : {A : Type 0} (test : A → Bool) (keys : List A) (n p q : ℕ) → q ≡ n + p → list_any (λ id. q == id) (numbers_from n test keys) ≡ passes test (slice_get keys p)
among test [] n p q e = refl
among {A} test (x ∷ keys) n zero q e = by (test x)
  where
    rest : list_any (λ id. q == id) (numbers_from (n + 1) test keys) ≡ false
    rest = not_below test keys (n + 1) q (omega arith)

    by : (b : Bool) → list_any (λ id. q == id) (map (λ (entry : ℕ × A). entry.0) (cond b ((n, x) ∷ filter (λ entry. test entry.1) (enumerate_from (n + 1) keys)) (filter (λ entry. test entry.1) (enumerate_from (n + 1) keys)))) ≡ b
    by true =
        let is : q ≡ n = omega arith in
        ap (λ b. b || list_any (λ id. q == id) (numbers_from (n + 1) test keys)) (same_number q n is)
    by false = rest
among {A} test (x ∷ keys) n (suc p) q e = by (test x) (among test keys (n + 1) p q (omega arith))
  where
    by : (b : Bool) → list_any (λ id. q == id) (numbers_from (n + 1) test keys) ≡ passes test (slice_get keys p) → list_any (λ id. q == id) (map (λ (entry : ℕ × A). entry.0) (cond b ((n, x) ∷ filter (λ entry. test entry.1) (enumerate_from (n + 1) keys)) (filter (λ entry. test entry.1) (enumerate_from (n + 1) keys)))) ≡ passes test (slice_get keys p)
    by true rest =
        let above : n < q = omega arith in
        ap (λ b. b || list_any (λ id. q == id) (numbers_from (n + 1) test keys)) (other_number_above q n above) ∙ rest
    by false rest = rest

marked : {A : Type 0} (same : A → A → Bool) → ((x y : A) → Decides (same x y) (x ≡ y)) → (test : A → Bool) (keys : List A) (o : Option A) → IsIn same keys o → is_among (numbers_where test keys) (number_among same keys o) ≡ passes test o
marked same decides test keys None is =
    let below : 0 < 1 = omega arith in
    not_below test keys 1 0 below
marked same decides test keys (Some key) is =
    let place : position_or_len (same key) keys + 1 ≡ 1 + position_or_len (same key) keys = omega arith in
    among test keys 1 (position_or_len (same key) keys) (position_or_len (same key) keys + 1) place
    ∙ ap (passes test) (found_at same decides keys key is)

all_marked : {A X : Type 0} (same : A → A → Bool) → ((x y : A) → Decides (same x y) (x ≡ y)) → (test : A → Bool) (h : X → Option A) (keys : List A) (xs : List X) → AreIn same h keys xs
    → map (λ word. mark_if (is_among (numbers_where test keys) word)) (map (λ x. number_among same keys (h x)) xs) ≡ map (λ x. mark_if (passes test (h x))) xs
all_marked same decides test h keys [] are = refl
all_marked same decides test h keys (x ∷ xs) are =
    ap (λ b. mark_if b ∷ map (λ word. mark_if (is_among (numbers_where test keys) word)) (map (λ y. number_among same keys (h y)) xs)) (marked same decides test keys (h x) are.0)
    ∙ ap (λ rest. mark_if (passes test (h x)) ∷ rest) (all_marked same decides test h keys xs are.1)

pub texts_mark_their_events : TextsMarkTheirEvents
texts_mark_their_events field events test =
    all_marked bytes_eq bytes_eq-Decides test (field_of field) (texts_of field events) events
    (all_in bytes_eq (alike_by bytes_eq bytes_eq-Decides) (field_of field) [] events)

-- ---- the number of an approval

first_passes : {A : Type 0} (p : A → Bool) (keys : List A) (key : A) → slice_get keys (position_or_len p keys) ≡ Some key → p key ≡ true
first_passes p [] key at = cc
first_passes {A} p (x ∷ keys) key at = by (p x) refl at (first_passes p keys key)
  where
    by : (b : Bool) → p x ≡ b → slice_get (x ∷ keys) (cond (not b) (1 + position_or_len p keys) 0) ≡ Some key → (slice_get keys (position_or_len p keys) ≡ Some key → p key ≡ true) → p key ≡ true
    by true e here rest =
        let is : x ≡ key = cc in
        subst (λ z. p z ≡ true) is e
    by false e here rest =
        let next : 1 + position_or_len p keys ≡ suc (position_or_len p keys) = omega arith in
        rest (sym (ap (slice_get (x ∷ keys)) next) ∙ here)

-- two numbers are the same where the keys are
same_keys : {A : Type 0} (same : A → A → Bool) → ((x y : A) → Decides (same x y) (x ≡ y)) → (keys : List A) (key wanted : A) → list_any (same key) keys ≡ true
    → ((position_or_len (same key) keys + 1) == (position_or_len (same wanted) keys + 1)) ≡ same wanted key
same_keys same decides keys key wanted found =
    let at = position_or_len (same key) keys in
    let other = position_or_len (same wanted) keys in
    one_answer ((at + 1) == (other + 1)) (same wanted key) (
      (λ h.
          let alike : at + 1 ≡ other + 1 = (Decides-eqb (at + 1) (other + 1)).0 h in
          let places : other ≡ at = omega arith in
          (decides wanted key).0 (first_passes (same wanted) keys key (ap (slice_get keys) places ∙ found_at same decides keys key found))),
      (λ e. (Decides-eqb (at + 1) (other + 1)).1 (ap (λ z. position_or_len (same z) keys + 1) (sym e))),
    )
    (decides wanted key)

no_number : (n : ℕ) → (0 == (n + 1)) ≡ false
no_number n = grind (arith, nat_tests)

is_wanted : {A : Type 0} (same : A → A → Bool) → ((x y : A) → Decides (same x y) (x ≡ y)) → (keys : List A) (o : Option A) (wanted : A) → IsIn same keys o
    → (number_among same keys o == number_among same keys (Some wanted)) ≡ passes (same wanted) o
is_wanted same decides keys None wanted is = no_number (position_or_len (same wanted) keys)
is_wanted same decides keys (Some key) wanted is = same_keys same decides keys key wanted is

-- ---- its rows

same_any : (f g : ℕ → Bool) (a n : ℕ) → ((k : ℕ) → k < n → f (a + k) ≡ g (a + k)) → list_any f (range_with_len a n) ≡ list_any g (range_with_len a n)
same_any f g a zero each = refl
same_any f g a (suc n) each =
    let first : f a ≡ g a = subst (λ b. f b ≡ g b) (add-zero a) (each 0 (omega arith)) in
    ap (λ b. b || list_any f (range_with_len (a + 1) n)) first
    ∙ ap (λ b. g a || b) (same_any f g (a + 1) n (λ k l.
    let next : a + suc k ≡ (a + 1) + k = omega arith in
    subst (λ b. f b ≡ g b) next (each (suc k) (omega arith))))

shifted_any : (f : ℕ → Bool) (a n : ℕ) → list_any f (range_with_len (a + 1) n) ≡ list_any (λ k. f (k + 1)) (range_with_len a n)
shifted_any f a zero = refl
shifted_any f a (suc n) = ap (λ b. f (a + 1) || b) (shifted_any f (a + 1) n)

never : {A : Type 0} (test : A → Bool) (ns : List ℕ) → list_any (λ k. passes test (slice_get [] k)) ns ≡ false
never test [] = refl
never test (n ∷ ns) = never test ns

any_at : {A : Type 0} (test : A → Bool) (xs : List A) (n : ℕ) → length xs ≤ n → list_any (λ k. passes test (slice_get xs k)) (range_with_len 0 n) ≡ list_any test xs
any_at test [] n l = never test (range_with_len 0 n)
any_at test (x ∷ xs) zero l = absurd (omega arith)
any_at test (x ∷ xs) (suc n) l =
    ap (λ b. test x || b)
    (shifted_any (λ k. passes test (slice_get (x ∷ xs) k)) 0 n
    ∙ same_any (λ k. passes test (slice_get (x ∷ xs) (k + 1))) (λ k. passes test (slice_get xs k)) 0 n (λ k l. ap (λ p. passes test (slice_get (x ∷ xs) p)) (add-one (0 + k)))
    ∙ any_at test xs n (omega arith))

by_place : {A B : Type 0} (g : ℕ → B) (f : A → B) (a : ℕ) (xs : List A) → ((i : ℕ) (x : A) → slice_get xs i ≡ Some x → g (a + i) ≡ f x) → map g (range_with_len a (length xs)) ≡ map f xs
by_place g f a [] each = refl
by_place g f a (x ∷ xs) each =
    ap (λ b. b ∷ map g (range_with_len (a + 1) (length xs))) (ap g (sym (add-zero a)) ∙ each 0 x refl)
    ∙ ap (λ rest. f x ∷ rest) (by_place g f (a + 1) xs (λ i y at.
    let next : (a + 1) + i ≡ a + suc i = omega arith in
    ap g next ∙ each (suc i) y at))

slots_are : (events : List Event) → 0 < length events → length (approval_cells_of events) / length events ≡ slots_of events
slots_are events some =
    ap (λ n. n / length events) (slots_length (approvals_of events) events (range_with_len 0 (slots_of events)))
    ∙ mul-div_left (length (range_with_len 0 (slots_of events))) some
    ∙ length-range_with_len 0 (slots_of events)

row_has : (events : List Event) (vote : List ℕ × ℤ) (row : ℕ) (event : Event) → slice_get events row ≡ Some event
    → is_in_row (approval_cells_of events) (length events) (number_among is_same_vote (approvals_of events) (Some vote)) row ≡ list_any (is_same_vote vote) event.approvals
row_has events vote row event at =
    let votes = approvals_of events in
    let cells = approval_cells_of events in
    let within : row < length events = inside events row event at in
    let some : 0 < length events = omega arith in
    let is = λ (slot : ℕ). slice_index cells (slot * length events + row) == number_among is_same_vote votes (Some vote) in
    ap (λ n. list_any is (range_with_len 0 n)) (slots_are events some)
    ∙ same_any is (λ k. passes (is_same_vote vote) (slice_get event.approvals k)) 0 (slots_of events)
    (λ k l. subst (λ s. is s ≡ passes (is_same_vote vote) (slice_get event.approvals s)) (sym (zero-add k))
    (ap (λ n. n == number_among is_same_vote votes (Some vote)) (cell_is events row event at k l)
    ∙ is_wanted is_same_vote same_vote votes (slice_get event.approvals k) vote (vote_is_in events row event k at (slice_get event.approvals k) refl)))
    ∙ any_at (is_same_vote vote) event.approvals (slots_of events) (enough 0 events row event at)

pub approvals_mark_their_events : ApprovalsMarkTheirEvents
approvals_mark_their_events events vote =
    by_place
    (λ row. mark_if (is_in_row (approval_cells_of events) (length events) (number_among is_same_vote (approvals_of events) (Some vote)) row))
    (λ (event : Event). mark_if (list_any (is_same_vote vote) event.approvals))
    0 events
    (λ i event at. subst (λ r. mark_if (is_in_row (approval_cells_of events) (length events) (number_among is_same_vote (approvals_of events) (Some vote)) r) ≡ mark_if (list_any (is_same_vote vote) event.approvals)) (sym (zero-add i))
    (ap mark_if (row_has events vote i event at)))
