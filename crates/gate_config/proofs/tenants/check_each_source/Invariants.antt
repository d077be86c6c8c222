use Rattle.std.proofs.Common.{option_map}
use Rattle.serde_json.specs.View.{view}
use Rattle.gate_config.specs.Inner.Steps.{steps_of}
use Rattle.gate_config.proofs.Along.{SourcesSoFar}
use Rattle.gate_config.proofs.tenants.check_each_source.Given as goal

abbrev pub invariant-loop-key : goal.invariant-loop-key
invariant-loop-key l = SourcesSoFar l.initial.names (steps_of l.place) (option_map (λ v. view v.now) l.sources) l.keys l.key-index l.names
