-- What the cells of approvals give back of an event.
use Rattle.std.proofs.Common.{◌≡◌, ◌∙◌, ℕ, zero, suc, ℤ, ◌+◌, ◌*◌, ◌<◌, ◌≤◌, List, [], ◌∷◌, ◌++◌, Bool, true, Option, Some, None, get_or, length, map, slice_get, refl, sym, ap, subst, arith, add-one, add-zero, zero-add}
use Rattle.std.specs.Prelude.{max, fold, flat_map, slice_index}
use Rattle.std.specs.List.{cons_option, filter_map, list_any, range_with_len}
use Rattle.std.proofs.Math.ListN.{get_or-append}
use Rattle.std.proofs.Math.Nat.{suc-mul, zero-mul}
use Rattle.std.proofs.lemmas.List.{get_or-append-add, length-map}
use Rattle.std.proofs.lemmas.List.Sums.{fold-append}
use Rattle.indexmap.specs.IndexSet.{insert_key, insert_all}
use Rattle.gate_record.specs.declared.event.Event.{Event}
use Rattle.gate_intern.specs.Columns.{approval_cells_of, approvals_of, is_same_vote, number_among, slot_of, slots_of}
use Rattle.gate_intern.specs.GivenBack.{ApprovalsComeBack, named}
use Rattle.gate_intern.proofs.GivenBack.{alike_by, named_number, same_vote}
use Rattle.gate_intern.proofs.Numbered.{IsIn, found_new, found_stays}

-- ---- each approval has a number

in_list : {A : Type 0} (same : A → A → Bool) → ((a : A) → same a a ≡ true) → (keys xs : List A) (j : ℕ) (v : A) → slice_get xs j ≡ Some v → list_any (same v) (insert_all same keys xs) ≡ true
in_list same alike keys [] j v at = cc
in_list same alike keys (x ∷ xs) zero v at =
    let is : x ≡ v = cc in
    found_stays same (same v) (insert_key same keys x) xs (subst (λ w. list_any (same w) (insert_key same keys x) ≡ true) is (found_new same keys x (alike x)))
in_list same alike keys (x ∷ xs) (suc j) v at = in_list same alike (insert_key same keys x) xs j v at

alike_vote : (vote : List ℕ × ℤ) → is_same_vote vote vote ≡ true
alike_vote = alike_by is_same_vote same_vote

abbrev given : List Event → List (List ℕ × ℤ)
given events = flat_map (λ (event : Event). event.approvals) events

in_events : (keys : List (List ℕ × ℤ)) (events : List Event) (i : ℕ) (event : Event) (j : ℕ) (v : List ℕ × ℤ) → slice_get events i ≡ Some event → slice_get event.approvals j ≡ Some v → list_any (is_same_vote v) (insert_all is_same_vote keys (given events)) ≡ true
in_events keys [] i event j v at its = cc
in_events keys (e ∷ es) zero event j v at its =
    let is : e ≡ event = cc in
    let found = in_list is_same_vote alike_vote keys e.approvals j v (ap (λ (z : Event). slice_get z.approvals j) is ∙ its) in
    ap (list_any (is_same_vote v)) (fold-append (insert_key is_same_vote) keys e.approvals (given es))
    ∙ found_stays is_same_vote (is_same_vote v) (insert_all is_same_vote keys e.approvals) (given es) found
in_events keys (e ∷ es) (suc i) event j v at its =
    ap (list_any (is_same_vote v)) (fold-append (insert_key is_same_vote) keys e.approvals (given es))
    ∙ in_events (insert_all is_same_vote keys e.approvals) es i event j v at its

pub vote_is_in : (events : List Event) (i : ℕ) (event : Event) (j : ℕ) → slice_get events i ≡ Some event → (o : Option (List ℕ × ℤ)) → slice_get event.approvals j ≡ o → IsIn is_same_vote (approvals_of events) o
vote_is_in events i event j at None e = tt
vote_is_in events i event j at (Some v) e = in_events [] events i event j v at e

number_names : (events : List Event) (i : ℕ) (event : Event) (j : ℕ) → slice_get events i ≡ Some event → named (approvals_of events) (number_among is_same_vote (approvals_of events) (slice_get event.approvals j)) ≡ slice_get event.approvals j
number_names events i event j at = named_number is_same_vote same_vote (approvals_of events) (slice_get event.approvals j) (vote_is_in events i event j at (slice_get event.approvals j) refl)

-- ---- where a cell stands

pub inside : {A : Type 0} (xs : List A) (i : ℕ) (x : A) → slice_get xs i ≡ Some x → i < length xs
inside [] i x at = cc
inside (y ∷ xs) zero x at = omega arith
inside (y ∷ xs) (suc i) x at =
    let rest : i < length xs = inside xs i x at in
    omega arith

map_at : {A : Type 0} (f : A → ℕ) (xs : List A) (i : ℕ) (x : A) → slice_get xs i ≡ Some x → get_or (map f xs) i 0 ≡ f x
map_at f [] i x at = cc
map_at f (y ∷ xs) zero x at =
    let is : y ≡ x = cc in
    ap f is
map_at f (y ∷ xs) (suc i) x at = map_at f xs i x at

cell_at : (f : ℕ → List ℕ) (m : ℕ) → ((s : ℕ) → length (f s) ≡ m) → (a n k i : ℕ) → k < n → i < m → get_or (flat_map f (range_with_len a n)) (k * m + i) 0 ≡ get_or (f (a + k)) i 0
cell_at f m each a zero k i l h = absurd (omega arith)
cell_at f m each a (suc n) zero i l h =
    let len : length (f a) ≡ m = each a in
    let first : i < length (f a) = omega arith in
    let place : zero * m + i ≡ i = ap (λ p. p + i) (zero-mul m) ∙ zero-add i in
    ap (λ p. get_or (f a ++ flat_map f (range_with_len (a + 1) n)) p 0) place
    ∙ get_or-append (f a) (flat_map f (range_with_len (a + 1) n)) 0 i first
    ∙ ap (λ b. get_or (f b) i 0) (sym (add-zero a))
cell_at f m each a (suc n) (suc k) i l h =
    let len : length (f a) ≡ m = each a in
    let more : suc k * m ≡ k * m + m = suc-mul k m in
    let place : suc k * m + i ≡ length (f a) + (k * m + i) = omega arith in
    let next : (a + 1) + k ≡ a + suc k = omega arith in
    ap (λ p. get_or (f a ++ flat_map f (range_with_len (a + 1) n)) p 0) place
    ∙ get_or-append-add (f a) (flat_map f (range_with_len (a + 1) n)) (k * m + i) 0
    ∙ cell_at f m each (a + 1) n k i (omega arith) h
    ∙ ap (λ b. get_or (f b) i 0) next

-- the cell of an event in a slot
pub cell_is : (events : List Event) (row : ℕ) (event : Event) → slice_get events row ≡ Some event → (k : ℕ) → k < slots_of events
    → slice_index (approval_cells_of events) (k * length events + row) ≡ number_among is_same_vote (approvals_of events) (slice_get event.approvals k)
cell_is events row event at k l =
    let votes = approvals_of events in
    cell_at (slot_of votes events) (length events) (λ s. length-map events _) 0 (slots_of events) k row l (inside events row event at)
    ∙ map_at (λ (e : Event). number_among is_same_vote votes (slice_get e.approvals (0 + k))) events row event at
    ∙ ap (λ s. number_among is_same_vote votes (slice_get event.approvals s)) (zero-add k)

-- ---- what numbers from 0 on give

same_row : {A : Type 0} (g : ℕ → ℕ) (p h : ℕ → Option A) (a n : ℕ) → ((k : ℕ) → k < n → p (g (a + k)) ≡ h (a + k)) → filter_map p (map g (range_with_len a n)) ≡ filter_map h (range_with_len a n)
same_row g p h a zero each = refl
same_row g p h a (suc n) each =
    let first : p (g a) ≡ h a = subst (λ b. p (g b) ≡ h b) (add-zero a) (each 0 (omega arith)) in
    ap (λ o. cons_option o (filter_map p (map g (range_with_len (a + 1) n)))) first
    ∙ ap (cons_option (h a)) (same_row g p h (a + 1) n (λ k l.
    let next : a + suc k ≡ (a + 1) + k = omega arith in
    subst (λ b. p (g b) ≡ h b) next (each (suc k) (omega arith))))

shifted : {A : Type 0} (h : ℕ → Option A) (a n : ℕ) → filter_map h (range_with_len (a + 1) n) ≡ filter_map (λ k. h (k + 1)) (range_with_len a n)
shifted h a zero = refl
shifted h a (suc n) = ap (cons_option (h (a + 1))) (shifted h (a + 1) n)

alike_filter : {A : Type 0} (h p : ℕ → Option A) → ((k : ℕ) → h k ≡ p k) → (ns : List ℕ) → filter_map h ns ≡ filter_map p ns
alike_filter h p each [] = refl
alike_filter h p each (n ∷ ns) = ap (λ o. cons_option o (filter_map h ns)) (each n) ∙ ap (cons_option (p n)) (alike_filter h p each ns)

nothing : {A : Type 0} (ns : List ℕ) → filter_map (slice_get {X = A} []) ns ≡ []
nothing [] = refl
nothing (n ∷ ns) = nothing ns

all_got : {A : Type 0} (xs : List A) (n : ℕ) → length xs ≤ n → filter_map (slice_get xs) (range_with_len 0 n) ≡ xs
all_got [] n l = nothing (range_with_len 0 n)
all_got (x ∷ xs) zero l = absurd (omega arith)
all_got (x ∷ xs) (suc n) l =
    ap (λ rest. x ∷ rest)
    (shifted (slice_get (x ∷ xs)) 0 n
    ∙ alike_filter (λ k. slice_get (x ∷ xs) (k + 1)) (slice_get xs) (λ k. ap (slice_get (x ∷ xs)) (add-one k)) (range_with_len 0 n)
    ∙ all_got xs n (omega arith))

-- ---- there are slots enough

abbrev fullest : ℕ → List Event → ℕ
fullest most events = fold (λ (m : ℕ) (event : Event). max m (length event.approvals)) most events

grows : (most : ℕ) (events : List Event) → most ≤ fullest most events
grows most [] = omega arith
grows most (e ∷ es) =
    let more : max most (length e.approvals) ≤ fullest (max most (length e.approvals)) es = grows (max most (length e.approvals)) es in
    omega arith

pub enough : (most : ℕ) (events : List Event) (i : ℕ) (event : Event) → slice_get events i ≡ Some event → length event.approvals ≤ fullest most events
enough most [] i event at = cc
enough most (e ∷ es) zero event at =
    let is : e ≡ event = cc in
    let more : max most (length e.approvals) ≤ fullest (max most (length e.approvals)) es = grows (max most (length e.approvals)) es in
    let len : length e.approvals ≡ length event.approvals = ap (λ (z : Event). length z.approvals) is in
    omega arith
enough most (e ∷ es) (suc i) event at = enough (max most (length e.approvals)) es i event at

-- ---- the law

pub approvals_come_back : ApprovalsComeBack
approvals_come_back events row event at =
    let votes = approvals_of events in
    let cells = approval_cells_of events in
    let here = λ (k : ℕ) (l : k < slots_of events). ap (named votes) (cell_is events row event at k l) ∙ number_names events row event k at in
    same_row (λ slot. slice_index cells (slot * length events + row)) (named votes) (slice_get event.approvals) 0 (slots_of events)
    (λ k l. subst (λ s. named votes (slice_index cells (s * length events + row)) ≡ slice_get event.approvals s) (sym (zero-add k)) (here k l))
    ∙ all_got event.approvals (slots_of events) (enough 0 events row event at)
