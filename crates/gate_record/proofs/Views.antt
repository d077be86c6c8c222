-- A JSON list as the list of its values.
use Rattle.std.proofs.Common.{◌≡◌, List, [], ◌∷◌, map, refl, ap}
use Rattle.serde_json.specs.Data.{Data}
use Rattle.serde_json.specs.View.{view, items_view, items_of}
use Rattle.serde_json.specs.declared.value.Value.{Value}
use Rattle.gate_record.specs.Json.{items_in}

items_in-items_of : (ds : List Data) → items_in (items_of ds) ≡ ds
items_in-items_of [] = refl
items_in-items_of (d ∷ ds) = ap (λ rest. d ∷ rest) (items_in-items_of ds)

-- for `grind`
pub items_of_view : (vs : List Value) → items_in (items_view vs) ≡ map view vs
items_of_view vs = items_in-items_of (map view vs)
