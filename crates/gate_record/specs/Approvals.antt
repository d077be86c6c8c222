-- The approvals of an event: pairs of a category and a vote.
use Rattle.std.specs.Prelude.{◌==◌, ℕ, ℤ, List, [], ◌∷◌, map, take, codes, Option, option_map, option_and_then, if◌then◌else◌}
use Rattle.std.specs.List.{filter_map}
use Rattle.std.specs.Option.{option_or}
use Rattle.std.specs.Char.{to_ascii_lowercase}
use Rattle.serde_json.specs.Data.{Data}
use Rattle.gate_record.specs.Characters.{hyphen, space}
use Rattle.gate_record.specs.Json.{text_at, number_at, items_at}
use Rattle.gate_record.specs.Limits.{most_approvals}

abbrev pub category_byte : ℕ → ℕ
category_byte byte = if byte == space then hyphen else to_ascii_lowercase byte

-- the category of a label's name, as rules write it: ASCII letters in lower case, and a hyphen for each space
abbrev pub category : List ℕ → List ℕ
category text = map category_byte text

-- the category of an entry of the list: by `description` where that is a text, else by `type`
abbrev pub category_of : Data → Option (List ℕ)
category_of entry = option_map category (option_or
    (text_at (codes "description" ∷ []) entry)
    (text_at (codes "type" ∷ []) entry))

-- the approval of an entry: its category and the number at `value`, where it has both
abbrev pub approval_of : Data → Option (List ℕ × ℤ)
approval_of entry = option_and_then
    (λ name. option_map (λ vote. (name, vote)) (number_at (codes "value" ∷ []) entry))
    (category_of entry)

-- the approvals of a record's value: the first entries of the list `approvals` that have both category and vote
abbrev pub approvals_of : Data → List (List ℕ × ℤ)
approvals_of value = take most_approvals (filter_map approval_of (items_at (codes "approvals" ∷ []) value))
