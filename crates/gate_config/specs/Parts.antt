-- Parts of a JSON value. A value of another kind than asked for has no such parts.
use Rattle.std.specs.Prelude.{ℕ, List, [], ◌∷◌, Bool, true, false, Option, Some, None, is_some, option_and_then, unwrap_or, option_map}
use Rattle.serde_json.specs.Data.{Data, Items, null, boolean, number, string, array, object, Members, no_members, member}
use Rattle.serde_json.specs.Find.{get, as_bool, as_str, as_array, as_object}
use Rattle.gate_record.specs.Json.{items_in}

abbrev pub is_object : Data → Bool
is_object value = is_some (as_object value)

abbrev pub is_list : Data → Bool
is_list value = is_some (as_array value)

abbrev pub is_text : Data → Bool
is_text value = is_some (as_str value)

abbrev pub is_flag : Data → Bool
is_flag value = is_some (as_bool value)

-- There is a value, and it passes the test.
abbrev pub is_there : (Data → Bool) → Option Data → Bool
is_there test None = false
is_there test (Some value) = test value

-- There is no value, or it passes the test.
abbrev pub is_fine : (Data → Bool) → Option Data → Bool
is_fine test None = true
is_fine test (Some value) = test value

abbrev pub keys_in : Members → List (List ℕ)
keys_in no_members = []
keys_in (member key value members) = key ∷ keys_in members

-- the result of `of_items` on the items if there is a list, and else that of `of_value` on the value
abbrev pub by_kind : {A : Type 0} → (List Data → A) → (Data → A) → Option Items → Data → A
by_kind of_items of_value (Some items) value = of_items (items_in items)
by_kind of_items of_value None value = of_value value

abbrev pub one_or_list : {A : Type 0} → (List Data → A) → (Data → A) → Data → A
one_or_list of_items of_value value = by_kind of_items of_value (as_array value) value

-- the items of a list, in order; none of any other value
abbrev pub items_of : Option Data → List Data
items_of value = unwrap_or (option_map items_in (option_and_then as_array value)) []

-- the keys of an object, in byte order; none of any other value
abbrev pub keys_of : Option Data → List (List ℕ)
keys_of value = unwrap_or (option_map keys_in (option_and_then as_object value)) []

-- the value, unless it is null, which counts as absent
abbrev pub unless_null : Data → Option Data
unless_null null = None
unless_null (boolean b) = Some (boolean b)
unless_null (number n) = Some (number n)
unless_null (string s) = Some (string s)
unless_null (array values) = Some (array values)
unless_null (object members) = Some (object members)

-- an optional member; null counts as absent
abbrev pub optional : List ℕ → Data → Option Data
optional key value = option_and_then unless_null (get key value)

-- an optional member of a value that may itself be absent
abbrev pub optional_in : List ℕ → Option Data → Option Data
optional_in key value = option_and_then (optional key) value

-- the text of a required member, which was checked before
abbrev pub text_of_member : List ℕ → Data → List ℕ
text_of_member key value = unwrap_or (option_and_then as_str (get key value)) []
