use Rattle.std.proofs.Common.{◌≡◌, ◌++◌, map, take, string_bytes}
use Rattle.std.specs.List.{filter_map}
use Rattle.serde_json.specs.View.{view}
use Rattle.gate_config.specs.Document.{name_in}
use Rattle.gate_config.proofs.projects.push_group.Given as goal

abbrev pub invariant-loop-item : goal.invariant-loop-item
invariant-loop-item l = map string_bytes l.names.items ≡ map string_bytes l.initial.names.items ++ filter_map name_in (map view (take l.item-index l.items))
