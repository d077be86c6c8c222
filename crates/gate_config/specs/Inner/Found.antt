-- Values that were picked out of a list, and keys, as contracts see them.
use Rattle.std.specs.Prelude.{ℕ, List, String, string_bytes}
use Rattle.std.specs.Borrow.{Bor}
use Rattle.std.specs.declared.alloc.Global.{Global}
use Rattle.serde_json.specs.Data.{Data}
use Rattle.serde_json.specs.View.{view}
use Rattle.gate_config.specs.declared.document.Found.{Found}

abbrev pub found_view : Found → ℕ × Data
found_view entry = (entry.position, view entry.value.now)

abbrev pub key_view : Bor (String Global) → List ℕ
key_view key = string_bytes key.now
