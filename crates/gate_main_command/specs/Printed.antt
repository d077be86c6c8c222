-- What the commands print, of the documents and the script that they read.
use Rattle.std.specs.Prelude.{◌≡◌, ℕ, List, [], ◌∷◌, Option, Some, None, length}
use Rattle.std.specs.List.{All, flat_map, range_with_len}
use Rattle.std.specs.Str.Lines.{lines}
use Rattle.gate_config.specs.CheckText.{check_text}
use Rattle.gate_config.specs.Generations.{AreReadFrom, PassesBeside, common_of, config_at, count_of}
use Rattle.gate_config.specs.declared.generations.Generations.{Generations}
use Rattle.gate_core.specs.Replays.{Replays}

-- what each generation of a configuration says, one after another
abbrev pub generations_text : Generations → List ℕ
generations_text gens = flat_map (λ g. check_text (config_at gens g)) (range_with_len 0 (count_of gens))

-- Each document passes its checks and is one of the generations.
pub record AreGenerations (documents : List (List ℕ)) (gens : Generations) : Type 0 where
  pub count : count_of gens ≡ length documents
  pub read : AreReadFrom documents gens
  pub passed : All (PassesBeside (common_of documents)) documents

-- The documents are generations, and the text is what they say.
pub record Checks (documents : List (List ℕ)) (text : List ℕ) : Type 0 where
  pub gens : Generations
  pub are : AreGenerations documents gens
  pub says : text ≡ generations_text gens

-- The text is what `check` prints of some documents, of which there are so many. Which bytes a file has given isn't said.
pub record ChecksSome (count : ℕ) (text : List ℕ) : Type 0 where
  pub documents : List (List ℕ)
  pub as_many : length documents ≡ count
  pub checks : Checks documents text

-- The text is what `replay` prints of some documents, of which there are so many, and of some script.
pub record ReplaysSome (count : ℕ) (text : List ℕ) : Type 0 where
  pub documents : List (List ℕ)
  pub script : List ℕ
  pub as_many : length documents ≡ count
  pub replays : Replays documents script text

-- The first line of the bytes is the configuration, and the others are the script. Without bytes both are empty.
abbrev pub IsCut : (bytes configuration script : List ℕ) → Type 0
IsCut [] configuration script = (configuration ≡ []) × (script ≡ [])
IsCut (byte ∷ bytes) configuration script = lines (byte ∷ bytes) ≡ configuration ∷ lines script

pub record ReplaysCut (bytes text : List ℕ) : Type 0 where
  pub configuration : List ℕ
  pub script : List ℕ
  pub cut : IsCut bytes configuration script
  pub replays : Replays (configuration ∷ []) script text

-- The text is what `replay` prints of the bytes of standard input, where these are known.
abbrev pub ReplaysBytes : Option (List ℕ) → List ℕ → Type 0
ReplaysBytes None text = Unit {0}
ReplaysBytes (Some bytes) text = ReplaysCut bytes text
