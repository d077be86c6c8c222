-- The JSON value that bytes spell, and the values in it at a path of keys.
use Rattle.std.specs.Prelude.{List, [], ◌∷◌, ℕ, ℤ, Option, Some, None, option_and_then, unwrap_or, option_map, if◌then◌else◌}
use Rattle.std.specs.Str.{is_utf8}
use Rattle.serde_json.specs.Data.{Data, Items, no_items, item}
use Rattle.serde_json.specs.Read.{read}
use Rattle.serde_json.specs.Find.{get, as_str, as_array}
use Rattle.gate_record.specs.Numbers.{number_of}

-- the value that bytes spell, where they are UTF-8 and all of them are one JSON text that nests at most 127 levels deep
abbrev pub json_of : List ℕ → Option Data
json_of bytes = if is_utf8 bytes then read bytes else None

-- the value at a path; there is none if a step of the path meets anything but an object that has the key
abbrev pub at_path : List (List ℕ) → Data → Option Data
at_path [] value = Some value
at_path (key ∷ keys) value = option_and_then (at_path keys) (get key value)

-- the text at a path; there is none if something else stands there
abbrev pub text_at : List (List ℕ) → Data → Option (List ℕ)
text_at path value = option_and_then as_str (at_path path value)

-- the number at a path; there is none if something else stands there
abbrev pub number_at : List (List ℕ) → Data → Option ℤ
number_at path value = option_and_then number_of (at_path path value)

-- the values of a list, in order
abbrev pub items_in : Items → List Data
items_in no_items = []
items_in (item value items) = value ∷ items_in items

-- the values of the list at a path; there are none if something else stands there
abbrev pub items_at : List (List ℕ) → Data → List Data
items_at path value = unwrap_or (option_map items_in (option_and_then as_array (at_path path value))) []
