-- Rows that are marked slot after slot.
use Rattle.std.proofs.Common.{◌≡◌, ℕ, zero, suc, ◌+◌, ◌*◌, ◌<◌, List, Bool, ◌||◌, eqb, map, length, take, drop, get_or, get_or-take, get_or-drop, add-one, ◌≤◌, ◌/◌, ap, sym, ◌∙◌, arith}
use Rattle.std.proofs.Math.Bool.{or-false, or_assoc}
use Rattle.std.proofs.Math.Nat.{mul-le-mul_left}
use Rattle.std.proofs.lemmas.List.{ext_get_or}
use Rattle.std.proofs.lemmas.List.FromFn.{get_or-map-range_with_len, length-map-range_with_len}
use Rattle.std.proofs.lemmas.Simd.{get_or-zip2, length-zip2}
use Rattle.std.specs.List.{list_any, range_with_len}
use Rattle.std.specs.Simd.Lanes.{zip2}
use Rattle.gate_lanes.proofs.Chosen.{one_more}
use Rattle.gate_lanes.specs.Inner.Masks.{marked_too}
use Rattle.gate_lanes.specs.Masks.{mark_if}

one_number_more : (t : ℕ → Bool) (a n m : ℕ) → a + n ≡ m → list_any t (range_with_len a (suc n)) ≡ (list_any t (range_with_len a n) || t m)
one_number_more t a zero m e =
    let same : a ≡ m = omega arith in
    or-false (t a) ∙ ap t same
one_number_more t a (suc n) m e =
    ap (λ b. t a || b) (one_number_more t (a + 1) n m (omega arith)) ∙ sym (or_assoc (t a) (list_any t (range_with_len (a + 1) n)) (t m))

-- the cells of one slot
pub cell_of_slot : (cells : List ℕ) (start n rows row : ℕ) → n ≡ rows → row < rows → get_or (take n (drop start cells)) row 0 ≡ get_or cells (start + row) 0
cell_of_slot cells start n rows row e h = get_or-take n (drop start cells) row 0 (omega arith) ∙ get_or-drop start cells row 0

pub slot_is_inside : (len rows slot : ℕ) → slot < len / rows → slot * rows + rows ≤ len
slot_is_inside len rows slot h =
    let k : suc slot ≤ len / rows = omega arith in
    omega (arith, mul-le-mul_left rows k)

-- the id is in a cell of the row in one of the first slots
abbrev pub is_in_first : List ℕ → ℕ → ℕ → ℕ → ℕ → Bool
is_in_first cells rows id slots row = list_any (λ slot. eqb (get_or cells (slot * rows + row) 0) id) (range_with_len 0 slots)

-- the rows so marked
abbrev pub marked_first : List ℕ → ℕ → ℕ → ℕ → List ℕ
marked_first cells rows id slots = map (λ row. mark_if (is_in_first cells rows id slots row)) (range_with_len 0 rows)

-- one slot more, of which these are the cells
pub one_slot_more : (cells here : List ℕ) (rows id slots : ℕ) → length here ≡ rows
    → ((row : ℕ) → row < rows → get_or here row 0 ≡ get_or cells (slots * rows + row) 0)
    → zip2 (marked_too id) (marked_first cells rows id slots) here ≡ marked_first cells rows id (slots + 1)
one_slot_more cells here rows id slots long same =
    let before = λ (row : ℕ). mark_if (is_in_first cells rows id slots row) in
    let after = λ (row : ℕ). mark_if (is_in_first cells rows id (slots + 1) row) in
    let front : length (marked_first cells rows id slots) ≡ rows = length-map-range_with_len before 0 rows in
    let len : length (zip2 (marked_too id) (marked_first cells rows id slots) here) ≡ rows = length-zip2 (marked_too id) _ here (front ∙ sym long) ∙ front in
    ext_get_or 0 _ _ (len ∙ sym (length-map-range_with_len after 0 rows)) (λ row h.
    let lt : row < rows = omega (arith, len) in
    get_or-zip2 (marked_too id) _ here row 0 0 0 (omega arith) (omega arith)
    ∙ ap (λ m. marked_too id m (get_or here row 0)) (get_or-map-range_with_len before 0 rows row row 0 lt (omega arith))
    ∙ ap (λ v. marked_too id (before row) v) (same row lt)
    ∙ one_more (is_in_first cells rows id slots row) (eqb (get_or cells (slots * rows + row) 0) id) (is_in_first cells rows id (slots + 1) row)
    (rw add-one (one_number_more (λ slot. eqb (get_or cells (slot * rows + row) 0) id) 0 slots slots (omega arith)))
    ∙ sym (get_or-map-range_with_len after 0 rows row row 0 lt (omega arith)))
