use Rattle.gate_config.specs.Inner.Steps.{steps_of}
use Rattle.gate_config.proofs.Votes.{ObjectsSoFar}
use Rattle.gate_config.proofs.approvals.read_objects.Given as goal

abbrev pub invariant-loop-position : goal.invariant-loop-position
invariant-loop-position l = ObjectsSoFar (steps_of l.place) l.items l.position l.votes
