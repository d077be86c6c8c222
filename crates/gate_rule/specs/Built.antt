-- Which texts `regex` reads, and what is known of a text that becomes no pattern.
use Rattle.std.specs.Prelude.{◌≡◌, ◌<◌, ◌⊎◌, ℕ, List, None, IfSome, chars}
use Rattle.regex.specs.declared.string.regex.Regex.{Regex}
use Rattle.regex.specs.Failures.{IsPattern}
use Rattle.regex.specs.Strings.{regex_config, IsReadFromSource}
use Rattle.regex.specs.Patterns.{default_config}
use Rattle.regex_syntax.specs.Grammar.{read}
use Rattle.gate_rule.specs.declared.pattern.PatternFault.{PatternFault}
use Rattle.gate_rule.specs.declared.pattern.PatternFault.TheVariants as fault

-- The expression is what the grammar of `regex` reads in its text under the default options.
abbrev pub IsReadByDefault : Regex → Type 0
IsReadByDefault regex = (regex_config regex ≡ default_config) × IsReadFromSource regex

-- The grammar of `regex` reads nothing in the text, or an expression that nests deeper than the limit.
abbrev pub IsUnread : List ℕ → Type 0
IsUnread text =
    (read default_config (chars text) ≡ None)
    ⊎ IfSome (read default_config (chars text)) (λ (re, names). default_config.nest_limit < re.depth)

-- The grammar of `regex` reads the text.
abbrev pub IsRead : List ℕ → Type 0
IsRead text = IsPattern default_config text

-- What is known of a text that is refused: the grammar of `regex` doesn't read it, or reads it. No definition says which texts
-- are too large to be built, so this rules out no text.
abbrev pub IsRefused : List ℕ → Type 0
IsRefused text = IsUnread text ⊎ IsRead text

-- what is known of a text that became no pattern, by its fault
abbrev pub IsNoPattern : List ℕ → PatternFault → Type 0
IsNoPattern text fault.Memory = Unit {0}
IsNoPattern text fault.Refused = IsRefused text
