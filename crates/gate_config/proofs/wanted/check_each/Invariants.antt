use Rattle.serde_json.specs.View.{view}
use Rattle.gate_config.proofs.Each.{TestedSoFar}
use Rattle.gate_config.specs.Inner.Steps.{steps_of}
use Rattle.gate_config.specs.Inner.Wanted.{wanted_checks}
use Rattle.gate_config.proofs.wanted.check_each.Given as goal

abbrev pub invariant-loop-position : goal.invariant-loop-position
invariant-loop-position l = TestedSoFar (wanted_checks l.wanted (steps_of l.place)) view l.items l.position
