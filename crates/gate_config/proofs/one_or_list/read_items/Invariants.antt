use Rattle.serde_json.specs.View.{view}
use Rattle.gate_config.proofs.Each.{ReadSoFar}
use Rattle.gate_config.specs.Inner.Listed.{item_checks}
use Rattle.gate_config.specs.Inner.Steps.{steps_of}
use Rattle.gate_config.proofs.one_or_list.read_items.Given as goal

abbrev pub invariant-loop-position : goal.invariant-loop-position
invariant-loop-position g l = ReadSoFar (item_checks g.L.Listable.count_checks g.L.Listable.position_checks g.L.Listable.checks (steps_of l.place)) view g.L.Listable.texts_of g.L.Listable.texts_in l.values l.position l.items.items
