-- The words of a line.
use Rattle.std.specs.Prelude.{ℕ, ◌+◌, ◌*◌, ◌-◌, List, [], ◌∷◌, ◌++◌, Bool, true, ◌==◌, ◌&&◌, nat_lt, nat_le, length, Option, Some, None, codes, decimal, fold, if◌then◌else◌}
use Rattle.std.specs.List.{list_all, before_first, after_first, position_or_len}
use Rattle.std.specs.Str.{is_utf8}
use Rattle.gate_record.specs.Characters.{digit_nine, digit_zero, number_sign, space}

abbrev pub is_space : ℕ → Bool
is_space byte = byte == space

-- the text before the first space, or the whole text if there is none
abbrev pub word_of : List ℕ → List ℕ
word_of text = before_first is_space text

-- the text after the first space, if there is one
abbrev pub rest_of : List ℕ → Option (List ℕ)
rest_of text = if nat_lt (position_or_len is_space text) (length text) then Some (after_first is_space text) else None

-- The line has nothing but spaces.
abbrev pub is_blank : List ℕ → Bool
is_blank line = list_all is_space line

-- A line of a script is skipped if it is empty or begins with `#`.
abbrev pub is_skipped : List ℕ → Bool
is_skipped [] = true
is_skipped (byte ∷ line) = byte == number_sign

abbrev pub is_digit : ℕ → Bool
is_digit byte = nat_le digit_zero byte && nat_le byte digit_nine

-- the value of decimal digits
abbrev pub value_of : List ℕ → ℕ
value_of digits = fold (λ value digit. 10 * value + (digit - digit_zero)) 0 digits

-- the value of one or more decimal digits, if it is below a limit
abbrev pub number_below : ℕ → List ℕ → Option ℕ
number_below limit text = if nat_lt 0 (length text) && (list_all is_digit text && nat_lt (value_of text) limit) then Some (value_of text) else None

-- a number after a space
abbrev pub spaced_number : ℕ → List ℕ
spaced_number number = codes " " ++ decimal number

-- the word that says whether a pipeline has finished
abbrev pub state_word : Bool → List ℕ
state_word finished = if finished then codes "finished" else codes "running"

-- the bytes as a text, if there are any and they are UTF-8
abbrev pub text_of : List ℕ → Option (List ℕ)
text_of bytes = if nat_lt 0 (length bytes) && is_utf8 bytes then Some bytes else None
