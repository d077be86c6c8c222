-- Lemmas on lines.
use Rattle.std.proofs.Common.{◌≡◌, ◌∙◌, ap, refl, ℕ, suc, ◌+◌, ◌-◌, ◌<◌, ◌≤◌, List, [], ◌∷◌, length, take, drop, Bool, true, false, cond, Option, Some, None, arith, length-drop}
use Rattle.std.specs.Prelude.{position, ◌==◌, nat_lt, not}
use Rattle.std.specs.List.{position_or_len, before_first, after_first, slice_split, onto_first}
use Rattle.std.specs.Str.Lines.{lines, lines_of_parts, strip_carriage_return}
use Rattle.std.proofs.lemmas.Bool.{ltb-true, ltb-false, eqb-true}
use Rattle.std.proofs.lemmas.List.{take_all}
use Rattle.std.proofs.lemmas.List.Sums.{prefix_len-le-length}
use Rattle.std.proofs.lemmas.List.Splits.{slice_split_first, length-slice_split}

-- ---- the first place of a byte

found_by : (b : Bool) (n i : ℕ) → cond b (Some n) None ≡ Some i → (b ≡ true) × (n ≡ i)
found_by true n i e = (refl, (cc))
found_by false n i e = absurd (cc)

missed_by : (b : Bool) (n : ℕ) → ◌≡◌ {A = Option ℕ} (cond b (Some n) None) None → b ≡ false
missed_by true n e = absurd (cc)
missed_by false n e = refl

pub found_at : (p : ℕ → Bool) (xs : List ℕ) (i : ℕ) → position p xs ≡ Some i → (nat_lt (position_or_len p xs) (length xs) ≡ true) × (position_or_len p xs ≡ i)
found_at p xs i e = found_by (nat_lt (position_or_len p xs) (length xs)) (position_or_len p xs) i e

pub missed : (p : ℕ → Bool) (xs : List ℕ) → position p xs ≡ None → nat_lt (position_or_len p xs) (length xs) ≡ false
missed p xs e = missed_by (nat_lt (position_or_len p xs) (length xs)) (position_or_len p xs) e

-- ---- lines

abbrev pub is_feed : ℕ → Bool
is_feed b = b == 10

split_step : (b : Bool) (x : ℕ) (xs : List ℕ) (parts : List (List ℕ)) (n : ℕ) → (n ≡ length xs → parts ≡ xs ∷ []) → cond (not b) (1 + n) 0 ≡ suc (length xs) → cond b ([] ∷ parts) (onto_first x parts) ≡ (x ∷ xs) ∷ []
split_step true x xs parts n f e = absurd (omega (arith, e))
split_step false x xs parts n f e = ap (onto_first x) (f (omega (arith, e)))

split_none : (xs : List ℕ) → position_or_len is_feed xs ≡ length xs → slice_split is_feed xs ≡ xs ∷ []
split_none [] e = refl
split_none (x ∷ xs) e = split_step (is_feed x) x xs (slice_split is_feed xs) (position_or_len is_feed xs) (split_none xs) e

lines_onward : (x : List ℕ) (parts : List (List ℕ)) → 0 < length parts → lines_of_parts (x ∷ parts) ≡ strip_carriage_return x ∷ lines_of_parts parts
lines_onward x [] some = absurd (omega (arith, some))
lines_onward x (part ∷ parts) some = refl

not_zero : (n : ℕ) (b : Bool) → (n == 0) ≡ b → 0 < n → b ≡ false
not_zero n true e some = let zero : n ≡ 0 = eqb-true n 0 e in absurd (omega (arith, zero, some))
not_zero n false e some = refl

not_empty : (n : ℕ) → 0 < n → (n == 0) ≡ false
not_empty n some = not_zero n (n == 0) refl some

empty_last : (b : Bool) (xs : List ℕ) → b ≡ false → cond b [] (xs ∷ []) ≡ xs ∷ []
empty_last b xs e = ap (λ v. cond v [] (xs ∷ [])) e

-- a text without a line feed is one line
pub lines_one : (text : List ℕ) → 0 < length text → position is_feed text ≡ None → lines text ≡ text ∷ lines []
lines_one text some e =
    let least : length text ≤ position_or_len is_feed text = ltb-false _ _ (missed is_feed text e) in
    let most : position_or_len is_feed text ≤ length text = prefix_len-le-length (λ b. not (is_feed b)) text in
    let whole : position_or_len is_feed text ≡ length text = omega (arith, least, most) in
    ap lines_of_parts (split_none text whole) ∙ empty_last (length text == 0) text (not_empty (length text) some)

-- the first line of a text with a line feed
pub lines_first : (text : List ℕ) (i : ℕ) → position is_feed text ≡ Some i → lines text ≡ strip_carriage_return (take i text) ∷ lines (drop (i + 1) text)
lines_first text i e =
    let found = found_at is_feed text i e in
    let below : position_or_len is_feed text < length text = ltb-true _ _ found.0 in
    let some : 0 < length (slice_split is_feed (after_first is_feed text)) = omega (arith, length-slice_split is_feed (after_first is_feed text)) in
    ap lines_of_parts (slice_split_first is_feed text 0 below)
    ∙ lines_onward (before_first is_feed text) (slice_split is_feed (after_first is_feed text)) some
    ∙ ap (λ n. strip_carriage_return (take n text) ∷ lines (drop (n + 1) text)) found.1

-- what a slice from a place on holds
pub take_rest : (k : ℕ) (xs : List ℕ) → take (length xs - k) (drop k xs) ≡ drop k xs
take_rest k xs = let short : length (drop k xs) ≡ length xs - k = length-drop k xs in take_all (length xs - k) (drop k xs) (omega (arith, short))
