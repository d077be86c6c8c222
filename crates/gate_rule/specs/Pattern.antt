-- Patterns of trigger rules, and where they match.
use Rattle.std.specs.Prelude.{◌==◌, ℕ, List, Bool, false, Option, Some, None, is_some}
use Rattle.regex.specs.Patterns.{Re, Match, find_str}
use Rattle.regex.specs.Strings.{regex_source, regex_pattern, matcher_pattern}
use Rattle.gate_rule.specs.declared.pattern.Pattern.{Pattern}
use Rattle.gate_rule.specs.declared.matcher.Matcher.{Matcher}

-- the text that the pattern was built from
abbrev pub text_of : Pattern → List ℕ
text_of pattern = regex_source pattern.regex

-- the expression that `regex` searches for
abbrev pub tree_of : Pattern → Re
tree_of pattern = regex_pattern pattern.regex

-- the expression that a matcher searches for
abbrev pub tree_in : Matcher → Re
tree_in matcher = matcher_pattern matcher.searches

abbrev pub is_at_front : Option Match → Bool
is_at_front None = false
is_at_front (Some found) = found.start == 0

-- The first match that `regex` finds in the text begins at byte 0.
abbrev pub finds_at_front : Re → List ℕ → Bool
finds_at_front tree text = is_at_front (find_str tree text 0)

-- `regex` finds a match in the text.
abbrev pub finds_within : Re → List ℕ → Bool
finds_within tree text = is_some (find_str tree text 0)

abbrev pub front : Pattern → List ℕ → Bool
front pattern text = finds_at_front (tree_of pattern) text

abbrev pub within : Pattern → List ℕ → Bool
within pattern text = finds_within (tree_of pattern) text
