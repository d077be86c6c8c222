-- The numbers of a record: a JSON number that is an `i64`, or a text that writes one.
use Rattle.std.specs.Prelude.{◌==◌, ◌&&◌, ◌^◌, ℕ, ℤ, pos, neg_ℤ, List, [], ◌∷◌, Bool, length, nat_lt, nat_le, Option, Some, None, if◌then◌else◌}
use Rattle.std.specs.Str.{all_ascii_digits}
use Rattle.std.specs.Str.Parse.{digits_value}
use Rattle.serde_json.specs.Data.{Data, number, string}
use Rattle.serde_json.specs.Find.{as_i64}
use Rattle.gate_record.specs.Characters.{hyphen, plus}

-- The text is one or more decimal digits.
abbrev pub is_numeral : List ℕ → Bool
is_numeral digits = nat_lt 0 (length digits) && all_ascii_digits digits

abbrev pub above_zero : List ℕ → Option ℤ
above_zero digits = if is_numeral digits && nat_lt (digits_value 10 digits) (2 ^ 63) then Some (pos (digits_value 10 digits)) else None

abbrev pub below_zero : List ℕ → Option ℤ
below_zero digits = if is_numeral digits && nat_le (digits_value 10 digits) (2 ^ 63) then Some (neg_ℤ (pos (digits_value 10 digits))) else None

-- the `i64` that a text writes with at most one sign and decimal digits
abbrev pub number_in : List ℕ → Option ℤ
number_in [] = None
number_in (sign ∷ digits) =
    if sign == hyphen then below_zero digits
    else (if sign == plus then above_zero digits else above_zero (sign ∷ digits))

-- the `i64` that a value is, written as a JSON number or as a text; a fraction or a number too large for an `i64` is none
abbrev pub number_of : Data → Option ℤ
number_of (number n) = as_i64 n
number_of (string text) = number_in text
number_of other = None
