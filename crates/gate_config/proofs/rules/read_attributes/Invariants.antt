use Rattle.serde_json.specs.View.{view}
use Rattle.gate_config.specs.Inner.Steps.{steps_of}
use Rattle.gate_config.proofs.Attributes.{AttributesSoFar}
use Rattle.gate_config.proofs.rules.read_attributes.Given as goal

abbrev pub invariant-loop-key : goal.invariant-loop-key
invariant-loop-key l = AttributesSoFar (steps_of l.here) (view l.rule) l.keys l.key-index l.read
