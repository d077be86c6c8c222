use Rattle.std.specs.Prelude.{◌≡◌, ◌==◌, ◌<◌, ℕ, length, map, string_bytes, true, vec_items}
use Rattle.std.specs.List.{list_any}
use Rattle.gate_main_command.specs.declared.streams.StreamWord.{StreamWord}
use Rattle.gate_main_command.specs.StreamWords.{NameFirst}
use Rattle.gate_main_command.proofs.streams.stream_words.Given as goal

-- each word so far has a stream
abbrev pub invariant-loop-word : goal.invariant-loop-word
invariant-loop-word l = (length (vec_items l.sources) ≡ l.word-index) × NameFirst l.config (map string_bytes l.words) (vec_items l.sources)

-- each connection so far has a stream
abbrev pub invariant-loop-number : goal.invariant-loop-number
invariant-loop-number l = (conn : ℕ) → conn < l.number → list_any (λ (source : StreamWord). source.conn == conn) (vec_items l.sources) ≡ true
