-- What is read in one text finds the same matches.
use Rattle.std.proofs.Common.{◌≡◌, ◌∙◌, refl, sym, ap, ℕ, List, Bool, Option, Some, None, true, false, IsSomeAnd, option_map, ◌==◌}
use Rattle.std.specs.Coded.{×_prop}
use mathlib.Core.Bool.{Bool-set}
use Rattle.std.proofs.Math.Logic.{∥∥₁_elim}
use Rattle.regex.specs.declared.string.regex.Regex.{Regex}
use Rattle.regex.specs.Patterns.{Match, SameCaptures, Reads, default_config, find_str, span}
use Rattle.regex.specs.Strings.{regex_source, regex_pattern}
use Rattle.std.specs.Str.{chars}
use Rattle.regex_syntax.specs.Grammar.{read}
use Rattle.regex.specs.Names.{names_of}
use Rattle.regex.proofs.ForCallers.{is_match_alike, span_alike}
use Rattle.gate_rule.specs.Built.{IsReadByDefault}
use Rattle.gate_rule.specs.Laws.{SameTextSameAnswers}
use Rattle.gate_rule.specs.Pattern.{is_at_front, text_of}

both_hold : {A B : Type 0} (o : Option A) (P Q : A → Type 0) → IsSomeAnd o P → IsSomeAnd o Q → ((x : A) → P x → Q x → B) → B
both_hold None P Q p q f = absurd p
both_hold (Some x) P Q p q f = f x p q

-- what is read in the text of r under the default options
reads_in : (source : List ℕ) (r : Regex) → regex_source r ≡ source → IsReadByDefault r → Reads default_config source r.pattern.program.hir (names_of r.pattern.names.items)
reads_in source r e read = rw (e, read.0) at read.1

same_trees : (source : List ℕ) (a b : Regex) → regex_source a ≡ source → regex_source b ≡ source → IsReadByDefault a → IsReadByDefault b →
    SameCaptures (regex_pattern a) (regex_pattern b)
unfolding Reads
same_trees source a b ea eb ra rb =
    both_hold (read default_config (chars source)) _ _ (reads_in source a ea ra) (reads_in source b eb rb) (λ x h k. record { at = λ hay ok rest i. h.1.at hay ok rest i ∙ sym (k.1.at hay ok rest i) })

-- where a match begins is seen of its span
abbrev span_at_front : Option (ℕ × ℕ) → Bool
span_at_front None = false
span_at_front (Some s) = s.0 == 0

by_span : (m : Option Match) → is_at_front m ≡ span_at_front (option_map span m)
by_span None = refl
by_span (Some m) = refl

pub same_text_same_answers : SameTextSameAnswers
same_text_same_answers a b e text bytes =
    ∥∥₁_elim a.built (×_prop (Bool-set _ _) (Bool-set _ _)) (λ ra. ∥∥₁_elim b.built (×_prop (Bool-set _ _) (Bool-set _ _)) (λ rb.
    let same = same_trees (text_of b) a.regex b.regex e refl ra rb in (
      by_span (find_str (regex_pattern a.regex) text 0) ∙ ap span_at_front (span_alike same text bytes true 0) ∙ sym (by_span (find_str (regex_pattern b.regex) text 0)),
      is_match_alike same text bytes true 0,
    )))
