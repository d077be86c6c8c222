-- A JSON value's items and keys, as lists.
use Rattle.std.proofs.Common.{◌≡◌, ◌∙◌, List, [], ◌∷◌, map, refl, ap, Bor, String, Global, string_bytes}
use Rattle.serde_json.specs.Data.{Data}
use Rattle.serde_json.specs.View.{view, items_view, members_view, items_of}
use Rattle.serde_json.specs.declared.value.Value.{Value}
use Rattle.gate_config.specs.Document.{only}
use Rattle.gate_config.specs.Inner.Found.{key_view}
use Rattle.gate_config.specs.Parts.{keys_in}
use Rattle.gate_record.specs.Json.{items_in}

items_in-items_of : (ds : List Data) → items_in (items_of ds) ≡ ds
items_in-items_of [] = refl
items_in-items_of (d ∷ ds) = ap (λ rest. d ∷ rest) (items_in-items_of ds)

pub items_in-items_view : (vs : List Value) → items_in (items_view vs) ≡ map view vs
items_in-items_view vs = items_in-items_of (map view vs)

-- the same, for `grind`
pub items_of_view : (vs : List Value) → items_in (items_view vs) ≡ map view vs
items_of_view vs = items_in-items_view vs

pub keys_in-members_view : (ms : List (String Global × Value)) → keys_in (members_view ms) ≡ map (λ (m : String Global × Value). string_bytes m.0) ms
keys_in-members_view [] = refl
keys_in-members_view (m ∷ ms) = ap (λ rest. string_bytes m.0 ∷ rest) (keys_in-members_view ms)

keys_shown : (keys : List (Bor (String Global))) → map key_view keys ≡ map string_bytes (map (λ (k : Bor (String Global)). k.now) keys)
keys_shown [] = refl
keys_shown (k ∷ keys) = ap (λ rest. string_bytes k.now ∷ rest) (keys_shown keys)

pub keys_held : (ms : List (String Global × Value)) → map string_bytes (map (λ (m : String Global × Value). m.0) ms) ≡ keys_in (members_view ms)
keys_held [] = refl
keys_held (m ∷ ms) = ap (λ rest. string_bytes m.0 ∷ rest) (keys_held ms)

-- the keys of a map, as references
pub keys_in-from_keys : (keys : List (Bor (String Global))) (ms : List (String Global × Value)) → map (λ (k : Bor (String Global)). k.now) keys ≡ map (λ (m : String Global × Value). m.0) ms → map key_view keys ≡ keys_in (members_view ms)
keys_in-from_keys keys ms e = keys_shown keys ∙ ap (map string_bytes) e ∙ keys_held ms

-- the only key of a map
pub only_key : (keys : List (String Global)) (ms : List (String Global × Value)) → keys ≡ map (λ (m : String Global × Value). m.0) ms → only (map string_bytes keys) ≡ only (keys_in (members_view ms))
only_key keys ms e = ap (λ ks. only (map string_bytes ks)) e ∙ ap only (keys_held ms)
