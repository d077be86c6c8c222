-- What stands in a JSON string of bytes consists of bytes.
use Rattle.std.proofs.Common.{◌≡◌, ◌<◌, ◌+◌, ◌*◌, ◌/◌, ℕ, zero, suc, List, [], ◌∷◌, ◌++◌, Bool, true, false, ◌&&◌, ◌||◌, ◌==◌, cond, nat_lt, Option, Some, None, option_and_then, refl, subst, arith, inl, inr}
use Rattle.std.proofs.lemmas.Bool.{and_parts, ltb-true}
use Rattle.std.specs.Prelude.{IfSome}
use Rattle.std.specs.Char.{digit_value, is_digit, encode_utf8}
use Rattle.std.specs.Str.{IsUtf8}
use lib.Utf8.{scalar, scalars, encodes, next, scalar_cases}
use Rattle.json.specs.Ascii as ascii
use Rattle.json.specs.Text.{Within, plain, after_backslash, after_u, after_high, code_unit, content, is_high_surrogate, is_low_surrogate, prepend, short_escape, surrogate_pair}
use Rattle.gate_record.specs.Bytes.{AreBytes}

-- ---- lists of bytes

pub no_bytes : AreBytes []
no_bytes place = omega arith

pub one_more : (x : ℕ) (xs : List ℕ) → x < 256 → AreBytes xs → AreBytes (x ∷ xs)
one_more x xs small bytes zero = small
one_more x xs small bytes (suc place) = bytes place

pub others : (x : ℕ) (xs : List ℕ) → AreBytes (x ∷ xs) → AreBytes xs
others x xs bytes place = bytes (suc place)

pub joined : (xs ys : List ℕ) → AreBytes xs → AreBytes ys → AreBytes (xs ++ ys)
joined [] ys a b = b
joined (x ∷ xs) ys a b = one_more x (xs ++ ys) (a 0) (joined xs ys (others x xs a) b)

-- ---- UTF-8

either : (b : Bool) (xs ys : List ℕ) → (b ≡ true → AreBytes xs) → AreBytes ys → AreBytes (cond b xs ys)
either true xs ys f h = f refl
either false xs ys f h = h

next_bytes : (n : ℕ) → AreBytes (next n ∷ [])
next_bytes n = one_more (next n) [] (omega arith) no_bytes

two_bytes : (m n : ℕ) → AreBytes (next m ∷ next n ∷ [])
two_bytes m n = one_more (next m) (next n ∷ []) (omega arith) (next_bytes n)

three_bytes : (k m n : ℕ) → AreBytes (next k ∷ next m ∷ next n ∷ [])
three_bytes k m n = one_more (next k) (next m ∷ next n ∷ []) (omega arith) (two_bytes m n)

pub character : (c : ℕ) → c < 1114112 → AreBytes (encode_utf8 c)
unfolding encode_utf8
character c low =
    either (nat_lt c 128) _ _ (λ e. let small = ltb-true c 128 e in one_more c [] (omega (arith, small)) no_bytes)
    (either (nat_lt c 2048) _ _ (λ e. let small = ltb-true c 2048 e in one_more (192 + c / 64) (next c ∷ []) (omega (arith, small)) (next_bytes c))
    (either (nat_lt c 65536) _ _ (λ e. let small = ltb-true c 65536 e in one_more (224 + c / 4096) (next (c / 64) ∷ next c ∷ []) (omega (arith, small)) (two_bytes (c / 64) c))
    (one_more (240 + c / 262144) (next (c / 4096) ∷ next (c / 64) ∷ next c ∷ []) (omega (arith, low)) (three_bytes (c / 4096) (c / 64) c))))

scalar_low : (c : ℕ) → scalar c ≡ true → c < 1114112
scalar_low c e = elim (scalar_cases c e) [ inl low ↦ omega (arith, low) | inr high ↦ high.1 ]

characters : (cs : List ℕ) → scalars cs ≡ true → AreBytes (encodes cs)
characters [] e = no_bytes
characters (c ∷ cs) e =
    let both = and_parts _ _ e in
    joined (encode_utf8 c) (encodes cs) (character c (scalar_low c both.0)) (characters cs both.1)

pub utf8_bytes : (bytes : List ℕ) → IsUtf8 bytes → AreBytes bytes
utf8_bytes bytes (cs, chars) = subst AreBytes chars.1 (characters cs chars.0)

-- ---- strings

prepended : (bytes : List ℕ) (rest : Option (List ℕ)) → AreBytes bytes → IfSome rest AreBytes → IfSome (prepend bytes rest) AreBytes
prepended bytes None a b = tt
prepended bytes (Some rest) a b = joined bytes rest a b

tested : (b : Bool) (x y : Option (List ℕ)) → (b ≡ true → IfSome x AreBytes) → IfSome y AreBytes → IfSome (cond b x y) AreBytes
tested true x y f h = f refl
tested false x y f h = h

after : {A : Type 0} (o : Option A) (f : A → Option (List ℕ)) → ((a : A) → o ≡ Some a → IfSome (f a) AreBytes) → IfSome (option_and_then f o) AreBytes
after None f h = tt
after (Some a) f h = h a refl

-- a byte
one_byte : (b : Bool) (x : ℕ) (o : Option ℕ) → (b ≡ true → x < 256) → IfSome o (λ c. c < 256) → IfSome (cond b (Some x) o) (λ c. c < 256)
one_byte true x o f h = f refl
one_byte false x o f h = h

escape_low : (x : ℕ) → x < 256 → IfSome (short_escape x) (λ c. c < 256)
unfolding short_escape
escape_low x small =
    one_byte ((x == ascii.quote) || (x == ascii.backslash) || (x == ascii.slash)) x _ (λ _. small)
    (one_byte (x == ascii.lower_b) ascii.backspace _ (λ _. omega arith)
    (one_byte (x == ascii.lower_f) ascii.form_feed _ (λ _. omega arith)
    (one_byte (x == ascii.lower_n) ascii.line_feed _ (λ _. omega arith)
    (one_byte (x == ascii.lower_r) ascii.carriage_return _ (λ _. omega arith)
    (one_byte (x == ascii.lower_t) ascii.tab None (λ _. omega arith) tt)))))

some_low : (o : Option ℕ) (c : ℕ) → IfSome o (λ n. n < 256) → o ≡ Some c → c < 256
some_low o c h e = subst (λ p. IfSome p (λ n. n < 256)) e h

unit_by : (b : Bool) (n u : ℕ) → (b ≡ true → n < 65536) → cond b (Some n) None ≡ Some u → u < 65536
unit_by true n u small e = subst (λ o. IfSome o (λ m. m < 65536)) e (small refl)
unit_by false n u small e = absurd cc

unit_low : (a b c d u : ℕ) → code_unit a b c d ≡ Some u → u < 65536
unfolding code_unit
unit_low a b c d u =
    unit_by (is_digit a 16 && is_digit b 16 && is_digit c 16 && is_digit d 16) _ u
    (λ e.
    let three = and_parts (is_digit a 16 && is_digit b 16 && is_digit c 16) (is_digit d 16) e in
    let two = and_parts (is_digit a 16 && is_digit b 16) (is_digit c 16) three.0 in
    let one = and_parts (is_digit a 16) (is_digit b 16) two.0 in
    let first = ltb-true (digit_value a) 16 one.0 in
    let second = ltb-true (digit_value b) 16 one.1 in
    let third = ltb-true (digit_value c) 16 two.1 in
    let fourth = ltb-true (digit_value d) 16 three.1 in
    digits_low (digit_value a) (digit_value b) (digit_value c) (digit_value d) first second third fourth)
  where
    digits_low : (i j k l : ℕ) → i < 16 → j < 16 → k < 16 → l < 16 → i * 4096 + j * 256 + k * 16 + l < 65536
    digits_low i j k l first second third fourth = omega (arith, first, second, third, fourth)

pair_low : (high low : ℕ) → high < 0xdc00 → low < 0xe000 → surrogate_pair high low < 1114112
pair_low high low a b = omega arith

-- a first half of a pair is one
abbrev IsFit : Within → Type 0
IsFit plain = Unit {0}
IsFit after_backslash = Unit {0}
IsFit after_u = Unit {0}
IsFit (after_high high) = high < 0xdc00

pub in_string : (within : Within) (xs : List ℕ) → IsFit within → AreBytes xs → IfSome (content within xs) AreBytes
unfolding content
in_string plain [] fit bytes = tt
in_string plain (x ∷ xs) fit bytes =
    tested (x == ascii.quote) _ _ (λ _. no_bytes)
    (tested (x == ascii.backslash) _ _ (λ _. in_string after_backslash xs tt (others x xs bytes))
    (tested (nat_lt x ascii.space) None _ (λ _. tt) (prepended (x ∷ []) _ (one_more x [] (bytes 0) no_bytes) (in_string plain xs tt (others x xs bytes)))))
in_string after_backslash [] fit bytes = tt
in_string after_backslash (x ∷ xs) fit bytes =
    tested (x == ascii.lower_u) _ _ (λ _. in_string after_u xs tt (others x xs bytes))
    (after (short_escape x) _ (λ c e. prepended (c ∷ []) _ (one_more c [] (some_low _ c (escape_low x (bytes 0)) e) no_bytes) (in_string plain xs tt (others x xs bytes))))
in_string after_u [] fit bytes = tt
in_string after_u (a ∷ []) fit bytes = tt
in_string after_u (a ∷ b ∷ []) fit bytes = tt
in_string after_u (a ∷ b ∷ c ∷ []) fit bytes = tt
in_string after_u (a ∷ b ∷ c ∷ d ∷ xs) fit bytes =
    after (code_unit a b c d) _ (λ u e.
    let small = unit_low a b c d u e in
    tested (is_high_surrogate u) _ _ (λ high. in_string (after_high u) xs (ltb-true u 0xdc00 (and_parts _ _ high).1) (λ place. bytes (suc (suc (suc (suc place))))))
    (tested (is_low_surrogate u) None _ (λ _. tt) (prepended (encode_utf8 u) _ (character u (omega (arith, small))) (in_string plain xs tt (λ place. bytes (suc (suc (suc (suc place)))))))))
in_string (after_high h) [] fit bytes = tt
in_string (after_high h) (s ∷ []) fit bytes = tt
in_string (after_high h) (s ∷ u ∷ []) fit bytes = tt
in_string (after_high h) (s ∷ u ∷ a ∷ []) fit bytes = tt
in_string (after_high h) (s ∷ u ∷ a ∷ b ∷ []) fit bytes = tt
in_string (after_high h) (s ∷ u ∷ a ∷ b ∷ c ∷ []) fit bytes = tt
in_string (after_high h) (s ∷ u ∷ a ∷ b ∷ c ∷ d ∷ xs) fit bytes =
    tested ((s == ascii.backslash) && (u == ascii.lower_u)) _ None
    (λ _. after (code_unit a b c d) _ (λ l e.
    tested (is_low_surrogate l) _ None
    (λ low. prepended (encode_utf8 (surrogate_pair h l)) _ (character (surrogate_pair h l) (pair_low h l fit (ltb-true l 0xe000 (and_parts _ _ low).1)))
    (in_string plain xs tt (λ place. bytes (suc (suc (suc (suc (suc (suc place)))))))))
    tt))
    tt
