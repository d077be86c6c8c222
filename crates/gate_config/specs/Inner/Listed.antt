-- What is read and checked of a value that is one item or a list of items, whatever the type of the items.
use Rattle.std.specs.Prelude.{ℕ, List, [], ◌∷◌, ◌++◌, Option, Some, None, length, map}
use Rattle.serde_json.specs.Data.{Data}
use Rattle.gate_config.specs.Checks.{each}
use Rattle.gate_config.specs.Faults.{Check}
use Rattle.gate_config.specs.Parts.{one_or_list}
use Rattle.gate_config.specs.Places.{nth}
use Rattle.gate_config.specs.declared.path.Step.{Step}

module _ (count_checks position_checks : List Step → ℕ → List Check) (checks : List Step → Data → List Check) (place : List Step) where
  -- the checks of the item at a position: first whether the list may have one there
  abbrev pub item_checks : ℕ → Data → List Check
  item_checks position value = position_checks place position ++ checks (nth place position) value

  -- the checks of a list: first whether it may have so many items
  abbrev pub list_checks : List Data → List Check
  list_checks values = count_checks place (length values) ++ each item_checks values

  -- the checks of one item or a list of items, if it is there
  abbrev pub listed_checks : Option Data → List Check
  listed_checks None = []
  listed_checks (Some value) = one_or_list list_checks (checks place) value

-- what one item or the items of a list say, if it is there
abbrev pub listed_texts : {T : Type 0} → (Data → T) → Option Data → List T
listed_texts texts_in None = []
listed_texts texts_in (Some value) = one_or_list (map texts_in) (λ item. texts_in item ∷ []) value
