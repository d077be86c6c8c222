-- The table of patterns by their texts.
use Rattle.std.specs.Prelude.{◌≡◌, List, String, string_bytes}
use Rattle.std.specs.List.{All}
use Rattle.std.specs.declared.alloc.Global.{Global}
use Rattle.gate_rule.specs.Pattern.{text_of}
use Rattle.gate_rule.specs.declared.pattern.Pattern.{Pattern}

-- The pattern was built from the text that is its key.
abbrev pub StandsAtText : String Global × Pattern → Type 0
StandsAtText entry = text_of entry.1 ≡ string_bytes entry.0

abbrev pub IsKeyed : List (String Global × Pattern) → Type 0
IsKeyed entries = All StandsAtText entries
