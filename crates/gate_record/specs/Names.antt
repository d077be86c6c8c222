-- How names are printed.
use Rattle.std.specs.Prelude.{ℕ, List}
use Rattle.serde_json.specs.Data.{string}
use Rattle.serde_json.specs.Written.{compact_text}

-- a name as compact JSON text, in quotes
abbrev pub name_text : List ℕ → List ℕ
name_text name = compact_text (string name)
