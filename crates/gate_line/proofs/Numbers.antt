-- Lemmas on words, numbers and texts.
use Rattle.std.proofs.Common.{◌≡◌, ◌∙◌, sym, ap, refl, subst, ℕ, ◌+◌, ◌*◌, ◌-◌, ◌<◌, ◌≤◌, List, [], ◌∷◌, length, take, drop, Bool, true, false, cond, Option, Some, None, arith, get_or}
use Rattle.std.specs.Prelude.{nat_lt, ◌==◌, ◌&&◌, fold}
use Rattle.std.specs.List.{list_all}
use Rattle.std.specs.Str.{IsUtf8, is_utf8}
use Rattle.std.proofs.lemmas.Str.{IsUtf8-from_is_utf8, is_utf8-from_IsUtf8}
use Rattle.std.proofs.lemmas.Bool.{ltb-true, ltb-false}
use Rattle.std.proofs.lemmas.List.{take-append-drop}
use Rattle.std.proofs.lemmas.List.Folds.{list_all_at}
use Rattle.std.proofs.lemmas.List.Sums.{fold_more, fold-append}
use Rattle.gate_line.specs.Words.{is_digit, value_of, text_of}

missed_by : (b : Bool) (n : ℕ) → ◌≡◌ {A = Option ℕ} (cond b (Some n) None) None → b ≡ false
missed_by true n e = absurd (cc)
missed_by false n e = refl

-- ---- numbers

abbrev pub digit_more : ℕ → ℕ → ℕ
digit_more value digit = 10 * value + (digit - 48)

pub value_more : (text : List ℕ) (i : ℕ) → i < length text → value_of (take (i + 1) text) ≡ 10 * value_of (take i text) + (get_or text i 0 - 48)
value_more text i inside = fold_more digit_more 0 text i 0 inside

fold_grows : (value : ℕ) (digits : List ℕ) → value ≤ fold digit_more value digits
fold_grows value [] = omega arith
fold_grows value (d ∷ digits) = let more : digit_more value d ≤ fold digit_more (digit_more value d) digits = fold_grows (digit_more value d) digits in omega (arith, more)

pub value_grows : (text : List ℕ) (i : ℕ) → value_of (take i text) ≤ value_of text
value_grows text i =
    let whole : value_of text ≡ fold digit_more (value_of (take i text)) (drop i text) = ap value_of (sym (take-append-drop i text)) ∙ fold-append digit_more 0 (take i text) (drop i text) in
    let grows = fold_grows (value_of (take i text)) (drop i text) in
    rw whole grows

below_by : (n m : ℕ) (b : Bool) → nat_lt n m ≡ b → n < m → b ≡ true
below_by n m true e h = refl
below_by n m false e h = let high : m ≤ n = ltb-false n m e in absurd (omega (arith, high, h))

above_by : (n m : ℕ) (b : Bool) → nat_lt n m ≡ b → m ≤ n → b ≡ false
above_by n m true e h = let low : n < m = ltb-true n m e in absurd (omega (arith, low, h))
above_by n m false e h = refl

-- a value that fits is given
pub fits : (n m : ℕ) → n < m → Some n ≡ cond (nat_lt n m) (Some n) None
fits n m h = sym (ap (λ b. cond b (Some n) None) (below_by n m (nat_lt n m) refl h))

-- a value that is too large so far stays too large
pub too_large : (text : List ℕ) (i m : ℕ) → i < length text → nat_lt (10 * value_of (take i text) + (get_or text i 0 - 48)) m ≡ false → None ≡ cond (nat_lt (value_of text) m) (Some (value_of text)) None
too_large text i m inside e =
    let high : m ≤ 10 * value_of (take i text) + (get_or text i 0 - 48) = ltb-false _ _ e in
    let more = value_more text i inside in
    let grows : value_of (take (i + 1) text) ≤ value_of text = value_grows text (i + 1) in
    let large : m ≤ value_of text = omega (arith, high, more, grows) in
    sym (ap (λ b. cond b (Some (value_of text)) None) (above_by (value_of text) m (nat_lt (value_of text) m) refl large))

-- a digit that is too much
digit_refused : (text : List ℕ) (i m value digit : ℕ) → i < length text → value ≡ value_of (take i text) → digit ≡ get_or text i 0 →
    ◌≡◌ {A = Option ℕ} None (cond (nat_lt (10 * value + (digit - 48)) m) (Some (10 * value + (digit - 48))) None) → None ≡ cond (nat_lt (value_of text) m) (Some (value_of text)) None
digit_refused text i m value digit inside ev ed e =
    let refused : nat_lt (10 * value + (digit - 48)) m ≡ false = missed_by (nat_lt (10 * value + (digit - 48)) m) (10 * value + (digit - 48)) (sym e) in
    too_large text i m inside (subst (λ d. nat_lt (10 * value_of (take i text) + (d - 48)) m ≡ false) ed (subst (λ v. nat_lt (10 * v + (digit - 48)) m ≡ false) ev refused))

also_where : (a b : Bool) (n : ℕ) → ◌≡◌ {A = Option ℕ} None (cond b (Some n) None) → ◌≡◌ {A = Option ℕ} None (cond (a && b) (Some n) None)
also_where true b n h = h
also_where false b n h = refl

-- a byte that is no digit, or a digit that is too much
pub byte_refused : (text : List ℕ) (i m value byte : ℕ) → i < length text → value ≡ value_of (take i text) → byte ≡ get_or text i 0 →
    ◌≡◌ {A = Option ℕ} None (cond (is_digit byte && nat_lt (10 * value + (byte - 48)) m) (Some (10 * value + (byte - 48))) None) →
    None ≡ cond (list_all is_digit text && nat_lt (value_of text) m) (Some (value_of text)) None
byte_refused text i m value byte inside ev eb e = go (is_digit byte) refl
  where
    go : (t : Bool) → is_digit byte ≡ t → None ≡ cond (list_all is_digit text && nat_lt (value_of text) m) (Some (value_of text)) None
    go false et =
        let letter : list_all is_digit text ≡ false = list_all_at is_digit text i 0 inside (sym (ap is_digit eb) ∙ et) in
        sym (ap (λ (a : Bool). cond (a && nat_lt (value_of text) m) (Some (value_of text)) None) letter)
    go true et =
        also_where (list_all is_digit text) (nat_lt (value_of text) m) (value_of text)
        (digit_refused text i m value byte inside ev eb
        (subst (λ (a : Bool). ◌≡◌ {A = Option ℕ} None (cond (a && nat_lt (10 * value + (byte - 48)) m) (Some (10 * value + (byte - 48))) None)) et e))

-- ---- texts

some_byte : (bs : List ℕ) → (length bs == 0) ≡ false → 0 < length bs
some_byte [] e = absurd (cc)
some_byte (byte ∷ bs) e = omega arith

-- of bytes there are, the test for UTF-8 decides
text_by : (bs : List ℕ) (b : Bool) → (length bs == 0) ≡ false → is_utf8 bs ≡ b → text_of bs ≡ cond b (Some bs) None
text_by bs b e tested =
    ap (λ (a : Bool). cond (a && is_utf8 bs) (Some bs) None) (below_by 0 (length bs) (nat_lt 0 (length bs)) refl (some_byte bs e))
    ∙ ap (λ (a : Bool). cond a (Some bs) None) tested

pub text_whole : (bs : List ℕ) → (length bs == 0) ≡ false → IsUtf8 bs → Some bs ≡ text_of bs
text_whole bs e utf8 = sym (text_by bs true e (is_utf8-from_IsUtf8 bs utf8))

refused_by : (bs : List ℕ) (b : Bool) → is_utf8 bs ≡ b → (IsUtf8 bs → ⊥) → b ≡ false
refused_by bs true e refused = absurd (refused (IsUtf8-from_is_utf8 bs e))
refused_by bs false e refused = refl

pub no_text : (bs : List ℕ) → (length bs == 0) ≡ false → (IsUtf8 bs → ⊥) → ◌≡◌ {A = Option (List ℕ)} None (text_of bs)
no_text bs e refused = sym (text_by bs false e (refused_by bs (is_utf8 bs) refl refused))
