-- What the words of the command line say of the streams of connections.
use Rattle.std.specs.Prelude.{◌≡◌, ◌<◌, ◌≤◌, ◌==◌, ◌⊎◌, ℕ, List, Bool, Some, count_by, length, slice_get, string_bytes, ⊤}
use Rattle.std.specs.List.{after_first, before_first, position}
use Rattle.std.specs.Str.{bytes_eq}
use Rattle.gate_config.specs.declared.config.Config.{Config}
use Rattle.gate_config.specs.Lookups.{connections_of}
use Rattle.gate_core.specs.Views.{EachAt}
use Rattle.gate_main_streams.specs.Addresses.{text_of}
use Rattle.gate_main_command.specs.declared.fault.Fault.{Fault}
use Rattle.gate_main_command.specs.declared.fault.Fault.TheVariants as fault
use Rattle.gate_main_command.specs.declared.streams.StreamWord.{StreamWord}

abbrev pub is_equals_sign : ℕ → Bool
is_equals_sign byte = byte == 61

-- The word is the name of a connection, an equals sign, which is the word's first one, and the text of the stream's address.
pub record IsStreamWord (config : Config) (word : List ℕ) (source : StreamWord) : Type 0 where
  pub conn : position (λ name. bytes_eq name (before_first is_equals_sign word)) (connections_of config) ≡ Some source.conn
  pub address : text_of source.address ≡ after_first is_equals_sign word
  pub whole : source.word.now ≡ word

-- how many of the streams are this connection's
abbrev pub how_many : ℕ → List StreamWord → ℕ
how_many conn sources = count_by (λ (source : StreamWord). source.conn == conn) sources

-- The first words name these streams, in the order of the words, and no connection has two.
pub record NameFirst (config : Config) (words : List (List ℕ)) (sources : List StreamWord) : Type 0 where
  pub each : EachAt (λ i (source : StreamWord). (word : List ℕ) → slice_get words i ≡ Some word → IsStreamWord config word source) sources
  pub at_most_one : (conn : ℕ) → how_many conn sources ≤ 1

-- Each word names a stream, in the order of the words, and each connection has exactly one.
pub record NameStreams (config : Config) (words : List (List ℕ)) (sources : List StreamWord) : Type 0 where
  pub count : length sources ≡ length words
  pub first : NameFirst config words sources
  pub one : (conn : ℕ) → conn < length (connections_of config) → how_many conn sources ≡ 1

-- This word is the first that names no stream, or the stream of a connection that has one.
pub record IsWrongWord (config : Config) (words : List (List ℕ)) (word : List ℕ) : Type 0 where
  pub at : ℕ
  pub stands : slice_get words at ≡ Some word
  pub before : List StreamWord
  pub count : length before ≡ at
  pub first : NameFirst config words before
  pub wrong : (source : StreamWord) → IsStreamWord config word source → how_many source.conn before ≡ 1

-- Each word names a stream, and this is the name of the first connection that has none.
pub record IsLeftOut (config : Config) (words : List (List ℕ)) (name : List ℕ) : Type 0 where
  pub sources : List StreamWord
  pub count : length sources ≡ length words
  pub first : NameFirst config words sources
  pub conn : ℕ
  pub stands : slice_get (connections_of config) conn ≡ Some name
  pub none : how_many conn sources ≡ 0
  pub one : (earlier : ℕ) → earlier < conn → how_many earlier sources ≡ 1

-- The fault is one of these words, or memory was refused.
abbrev pub FailsWords : Config → List (List ℕ) → Fault → Type 0
FailsWords config words (fault.Source text) = IsWrongWord config words (string_bytes text) ⊎ IsLeftOut config words (string_bytes text)
FailsWords config words fault.Memory = ⊤
FailsWords config words other = ⊥
