use Rattle.serde_json.specs.View.{view}
use Rattle.gate_config.specs.Inner.Steps.{steps_of}
use Rattle.gate_config.proofs.Votes.{VotesSoFar}
use Rattle.gate_config.proofs.approvals.push_votes.Given as goal

abbrev pub invariant-loop-key : goal.invariant-loop-key
invariant-loop-key l = VotesSoFar (steps_of l.place) (steps_of l.here) (view l.object) l.initial.votes l.keys l.key-index l.votes
