-- Digits alone, and few of them, are a number that is taken.
use Rattle.std.proofs.Common.{◌≡◌, ◌∙◌, ◌<◌, ◌≤◌, ◌^◌, ◌==◌, ◌++◌, ℕ, List, [], ◌∷◌, Bool, true, false, length, refl, sym, ap, arith, append-nil, is_some}
use Rattle.std.specs.Str.{all_ascii_digits}
use Rattle.std.specs.Str.Parse.{AllDigits, digits_value}
use Rattle.std.proofs.lemmas.Bool.{eqb-true, lt-ltb}
use Rattle.std.proofs.lemmas.Str.Parse.{IsNumeralModel, digits_value_short, numerals_by_value, tells_all_ascii_digits}
use Rattle.std.proofs.lemmas.Float.Parse.{scan_numeral-text_of}
use Rattle.fast_float.specs.Text.{Parts, minus, scan}
use Rattle.serde_json.specs.Read.{number_from, number_of}

-- digits have the value of the number that they write
pub own : IsNumeralModel (λ ds. all_ascii_digits ds ≡ true) (digits_value 10)
own = numerals_by_value _ tells_all_ascii_digits

abbrev whole : List ℕ → Parts
whole ds = record { whole = ds; point = false; fraction = []; exponent_negative = false; exponent = []; len = length (ds ++ []) }

scanned : (ds : List ℕ) → AllDigits 10 ds → scan ds ≡ whole ds
scanned ds digits =
    ap scan (sym (append-nil ds))
    ∙ scan_numeral-text_of (whole ds) (record { whole_digits = digits; fraction_digits = tt; exponent_digits = tt; no_point = λ _. refl; no_exponent = λ _. refl; len_is = refl })

taken_as : (ds : List ℕ) → 0 < length ds → digits_value 10 ds < 2 ^ 64 → is_some (number_from false (whole ds)) ≡ true
taken_as ds some few = rw (append-nil ds, lt-ltb 0 (length ds) some, lt-ltb (digits_value 10 ds) (2 ^ 64) few) refl

not_minus : (c : ℕ) → 48 ≤ c → (c == minus) ≡ false
not_minus c h = by (c == minus) refl
  where
    by : (b : Bool) → (c == minus) ≡ b → (c == minus) ≡ false
    by true e = absurd (omega (arith, h, eqb-true c minus e))
    by false e = e

pub short_is_taken : (ds : List ℕ) → all_ascii_digits ds ≡ true → 0 < length ds → length ds ≤ 18 → is_some (number_of ds) ≡ true
unfolding number_of
short_is_taken [] digits some few = absurd (omega (arith, some))
short_is_taken (c ∷ cs) digits some few =
    let ds = c ∷ cs in
    let first = tells_all_ascii_digits.parts c cs digits in
    rw (not_minus c first.0.0, scanned ds (own.to ds digits))
    (taken_as ds some (omega (arith, digits_value_short own ds 18 digits few)))
