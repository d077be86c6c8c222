-- The fields of a line, read from left to right. The first field that is missing or wrong is the line's fault.
use Rattle.std.specs.Prelude.{◌≡◌, ℕ, List, [], ◌∷◌, Bool, true, false, nat_lt, length, Option, Some, None, Result, Ok, Err, option_copied, IsTrue, if◌then◌else◌}
use Rattle.std.specs.Borrow.{Bor}
use Rattle.gate_line.specs.declared.field.Field.{Field}
use Rattle.gate_line.specs.declared.field.Field.TheVariants as field
use Rattle.gate_line.specs.declared.field.LineFault.{LineFault}
use Rattle.gate_line.specs.declared.field.LineFault.TheVariants.{Empty, Memory, Missing, Wrong}
use Rattle.gate_line.specs.Words.{word_of, rest_of, number_below, text_of}

-- The rest of a line after a field: nothing where the line ends with the field, else what follows the field's space.
abbrev pub Rest : Type 0
Rest = Option (List ℕ)

-- Goes on with a value, or keeps the fault that there is in place of one.
infixl 10 ◌>>=◌
abbrev pub ◌>>=◌ : {A B : Type 0} → Result A LineFault → (A → Result B LineFault) → Result B LineFault
Ok value >>= f = f value
Err fault >>= f = Err fault

-- the fault where a field is expected and this rest stands instead
abbrev pub wrong : Field → Rest → LineFault
wrong expected None = Missing expected
wrong expected (Some text) = Wrong expected (length text)

-- the value, or the fault that this rest stands in place of the expected field
abbrev pub or_wrong : {A : Type 0} → Option A → Field → Rest → Result A LineFault
or_wrong (Some value) expected rest = Ok value
or_wrong None expected rest = Err (wrong expected rest)

-- a field of one byte or more, and the rest after it
abbrev pub word_field : Field → Rest → Result (List ℕ × Rest) LineFault
word_field expected None = Err (Missing expected)
word_field expected (Some text) = if nat_lt 0 (length (word_of text)) then Ok (word_of text, rest_of text) else Err (Empty expected)

-- a field that is a number below a limit, and the rest after it
abbrev pub number_field : ℕ → Field → Rest → Result (ℕ × Rest) LineFault
number_field limit expected rest = do
  word ← word_field expected rest
  number ← or_wrong (number_below limit word.0) expected rest
  Ok (number, word.1)

-- a field that is a text, and the rest after it
abbrev pub text_field : Field → Rest → Result (List ℕ × Rest) LineFault
text_field expected rest = do
  word ← word_field expected rest
  text ← or_wrong (text_of word.0) expected rest
  Ok (text, word.1)

-- the whole rest as one field, spaces included, if it has one byte or more
abbrev pub last_bytes : Field → Rest → Result (List ℕ) LineFault
last_bytes expected None = Err (Missing expected)
last_bytes expected (Some []) = Err (Empty expected)
last_bytes expected (Some (byte ∷ bytes)) = Ok (byte ∷ bytes)

-- the whole rest as one text, spaces included
abbrev pub last_text : Field → Rest → Result (List ℕ) LineFault
last_text expected rest = do
  bytes ← last_bytes expected rest
  or_wrong (text_of bytes) expected rest

-- The line has ended.
abbrev pub at_end : Rest → Result (Unit {0}) LineFault
at_end None = Ok (tt {0})
at_end (Some more) = Err (Wrong field.End (length more))

abbrev pub is_number : Field → Bool
is_number field.Connection = true
is_number field.Tenant = true
is_number field.Pipeline = true
is_number field.Count = true
is_number field.BuildSet = true
is_number field.Change = true
is_number other = false

-- ---- faults

-- Memory may be refused for a value that has texts to copy. Without a value there is nothing to copy.
abbrev pub MayBeRefused : {A : Type 0} → (A → Bool) → Result A LineFault → Type 0
MayBeRefused texts (Ok value) = IsTrue (texts value)
MayBeRefused texts (Err fault) = ⊥

-- The fault is a possible answer where `asked` is what the line says. Every fault other than `Memory` must be the line's own.
abbrev pub IsFaultOf : {A : Type 0} → (A → Bool) → Result A LineFault → LineFault → Type 0
IsFaultOf texts asked Memory = MayBeRefused texts asked
IsFaultOf texts asked other = asked ≡ Err other

-- A call answers this where `asked` is what the line says: the same, or `Memory` if texts had to be copied.
abbrev pub Answers : {A : Type 0} → (A → Bool) → Result A LineFault → Result A LineFault → Type 0
Answers texts asked (Ok value) = asked ≡ Ok value
Answers texts asked (Err fault) = IsFaultOf texts asked fault

-- The fault is one of the line itself, not `Memory`.
abbrev pub IsOwn : LineFault → Type 0
IsOwn Memory = ⊥
IsOwn other = Unit {0}

-- what a function that reads a field returns, with borrowed texts as lists of bytes
abbrev pub seen : {A B : Type 0} → (A → B) → Result (A × Option (Bor (List ℕ))) LineFault → Result (B × Rest) LineFault
seen view (Ok read) = Ok (view read.0, option_copied read.1)
seen view (Err fault) = Err fault
