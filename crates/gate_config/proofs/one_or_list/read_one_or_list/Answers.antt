use Rattle.std.proofs.Common.{◌≡◌, List, [], ◌∷◌, Option, Some, None, Result, map, option_map, subst}
use Rattle.serde_json.specs.Data.{Data, Items}
use Rattle.serde_json.specs.View.{view}
use Rattle.gate_record.specs.Json.{items_in}
use Rattle.gate_config.specs.Inner.Listed.{list_checks}
use Rattle.gate_config.specs.Inner.Steps.{steps_of}
use Rattle.gate_config.specs.declared.fault.ConfigFault.{ConfigFault}
use Rattle.gate_config.specs.Faults.{Check}
use Rattle.gate_config.specs.Inner.Faults.{Reads}
use Rattle.gate_config.specs.Parts.{by_kind}
use Rattle.gate_config.proofs.one_or_list.read_one_or_list.Goals as goal

-- what was read of a list, at the value that is the list
of_list : {T B : Type 0} (checks_of_list : List Data → List Check) (checks : Data → List Check) (texts_of : T → B) (texts_in : Data → B) (value : Data) (values : List Data) (found : Option Items) (r : Result (List T) ConfigFault) → Some values ≡ option_map items_in found → Reads (checks_of_list values) (λ items. map texts_of items ≡ map texts_in values) r → Reads (by_kind checks_of_list checks found value) (λ items. map texts_of items ≡ by_kind (map texts_in) (λ item. texts_in item ∷ []) found value) r
of_list checks_of_list checks texts_of texts_in value values None r e h = cc
of_list checks_of_list checks texts_of texts_in value values (Some items) r e h =
    let same : values ≡ items_in items = cc in
    subst (λ vs. Reads (checks_of_list vs) (λ items. map texts_of items ≡ map texts_in vs) r) same h

pub returns-in-Some-list : goal.returns-in-Some-list
returns-in-Some-list g c =
    let place = steps_of c.args.place.now in
    rw c.in-Some.is (of_list (list_checks g.L.Listable.count_checks g.L.Listable.position_checks g.L.Listable.checks place) (g.L.Listable.checks place) g.L.Listable.texts_of g.L.Listable.texts_in _ (map view c.in-Some-list.values.now) _ c.read_list.result (rw c.in-Some-list.is at c.list.ensures) c.read_list.ensures)
