-- Characters that definitions name, by their numbers.
use Rattle.std.specs.Prelude.{ℕ}

abbrev pub line_feed : ℕ
line_feed = 10

abbrev pub space : ℕ
space = 32

-- `#`
abbrev pub number_sign : ℕ
number_sign = 35

-- `+`
abbrev pub plus : ℕ
plus = 43

-- `-`
abbrev pub hyphen : ℕ
hyphen = 45

-- `.`
abbrev pub full_stop : ℕ
full_stop = 46

-- `0`
abbrev pub digit_zero : ℕ
digit_zero = 48

-- `9`
abbrev pub digit_nine : ℕ
digit_nine = 57

-- `[`
abbrev pub left_bracket : ℕ
left_bracket = 91

-- `]`
abbrev pub right_bracket : ℕ
right_bracket = 93
