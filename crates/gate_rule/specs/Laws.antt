-- A law about all patterns.
use Rattle.std.specs.Prelude.{◌≡◌, ℕ, List}
use Rattle.gate_record.specs.Bytes.{AreBytes}
use Rattle.gate_rule.specs.declared.pattern.Pattern.{Pattern}
use Rattle.gate_rule.specs.Pattern.{text_of, front, within}

-- Two patterns of one text give the same answers on every text.
abbrev pub SameTextSameAnswers : Type 0
SameTextSameAnswers =
    (a b : Pattern) → text_of a ≡ text_of b → (text : List ℕ) → AreBytes text → (front a text ≡ front b text) × (within a text ≡ within b text)
