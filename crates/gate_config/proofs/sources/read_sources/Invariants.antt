use Rattle.std.proofs.Common.{◌≡◌, map, option_map, take}
use Rattle.serde_json.specs.View.{view}
use Rattle.gate_config.specs.Document.{projects_under}
use Rattle.gate_config.specs.Lookups.{has_project}
use Rattle.gate_config.proofs.sources.read_sources.Given as goal

abbrev pub invariant-loop-connection : goal.invariant-loop-connection
invariant-loop-connection l = map (option_map has_project) l.sources.items ≡ map (projects_under (view l.tenant)) (take l.connection-index l.connections)
