-- What the tokens of a tape stand for, as serde_json's values.
use Rattle.std.specs.Prelude.{◌≡◌, ◌&&◌, ◌+◌, ◌-◌, ℕ, List, [], ◌∷◌, Bool, true, nat_lt, Option, Some, None, option_map, is_some, unwrap_or, MatchOption}
use Rattle.json.specs.Token.{Token}
use Rattle.json.specs.Json as json
use Rattle.json.specs.Find.{BeginsWith, InItems}
use Rattle.serde_json.specs.Data.{Data}
use Rattle.serde_json.specs.Find.{as_array}
use Rattle.serde_json.specs.Read.{max_depth, number_of, of_json}
use Rattle.gate_record.specs.Json.{items_in}

-- The tokens begin with this value.
abbrev pub Begins : List Token → Data → Type 0
Begins tokens value = (j : json.Json) × BeginsWith tokens j × (of_json j ≡ Some value)

-- At the place begins the value that was looked up. There is no place if nothing was found.
abbrev pub Finds : Option (List Token) → Option Data → Type 0
Finds place found = MatchOption place (found ≡ None) (λ tokens. (value : Data) × (found ≡ Some value) × Begins tokens value)

-- These are the values of the items.
abbrev pub AreOf : json.Items → List Data → Type 0
AreOf json.no_items values = values ≡ []
AreOf (json.item j js) values = (value : Data) × (rest : List Data) × (of_json j ≡ Some value) × (values ≡ value ∷ rest) × AreOf js rest

-- The tokens go on with the rest of a list, which has these values.
abbrev pub GoesOn : List Token → List Data → Type 0
GoesOn tokens values = (js : json.Items) × InItems tokens js × AreOf js values

-- At the place stands the rest of a list with these values. Without a place the list has no values.
abbrev pub Lists : Option (List Token) → List Data → Type 0
Lists place values = MatchOption place (values ≡ []) (λ tokens. GoesOn tokens values)

-- At the place begins the first of these values, and the tokens `after` go on with the others. Without a place there are no
-- values.
abbrev pub Follows : Option (List Token) → List Data → List Token → Type 0
Follows place values after = MatchOption place (values ≡ []) (λ tokens. (value : Data) × (rest : List Data) × (values ≡ value ∷ rest) × Begins tokens value × GoesOn after rest)

-- the values of a list; none of a value that isn't a list
abbrev pub items_of : Data → List Data
items_of value = unwrap_or (option_map items_in (as_array value)) []

-- Whether serde_json takes these JSON tokens at this level of nesting: no level is above its deepest, and each number is an
-- integer of 64 bits or near a finite float.
abbrev pub fit : ℕ → List Token → Bool
fit level [] = true
fit level (Token.begin_object ∷ tokens) = nat_lt level max_depth && fit (level + 1) tokens
fit level (Token.end_object ∷ tokens) = fit (level - 1) tokens
fit level (Token.begin_array ∷ tokens) = nat_lt level max_depth && fit (level + 1) tokens
fit level (Token.end_array ∷ tokens) = fit (level - 1) tokens
fit level (Token.key text ∷ tokens) = fit level tokens
fit level (Token.string text ∷ tokens) = fit level tokens
fit level (Token.number text ∷ tokens) = is_some (number_of text) && fit level tokens
fit level (Token.boolean value ∷ tokens) = fit level tokens
fit level (Token.null ∷ tokens) = fit level tokens
fit level (Token.bad ∷ tokens) = fit level tokens
