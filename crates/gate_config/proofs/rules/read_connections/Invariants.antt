use Rattle.std.proofs.Common.{map, option_map}
use Rattle.serde_json.specs.View.{view}
use Rattle.gate_config.proofs.Each.{ReadSoFar}
use Rattle.gate_config.specs.Checks.{connection_checks}
use Rattle.gate_config.specs.Document.{rules_under}
use Rattle.gate_config.specs.Texts.{texts_of_rule}
use Rattle.gate_config.specs.Inner.Steps.{steps_of}
use Rattle.gate_config.proofs.rules.read_connections.Given as goal

abbrev pub invariant-loop-connection : goal.invariant-loop-connection
invariant-loop-connection l = ReadSoFar (λ _. connection_checks (steps_of l.place) (option_map (λ v. view v.now) l.trigger)) (λ name. name) (map texts_of_rule) (rules_under (option_map (λ v. view v.now) l.trigger)) l.connections l.connection-index l.rules.items
