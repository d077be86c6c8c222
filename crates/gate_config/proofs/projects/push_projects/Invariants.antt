use Rattle.std.proofs.Common.{◌≡◌, ◌++◌, map, take, string_bytes}
use Rattle.std.specs.List.{flat_map}
use Rattle.serde_json.specs.View.{view}
use Rattle.gate_config.specs.Document.{entry_projects}
use Rattle.gate_config.proofs.projects.push_projects.Given as goal

abbrev pub invariant-loop-entry : goal.invariant-loop-entry
invariant-loop-entry l = map string_bytes l.names.items ≡ map string_bytes l.initial.names.items ++ flat_map entry_projects (map view (take l.entry-index l.entries))
