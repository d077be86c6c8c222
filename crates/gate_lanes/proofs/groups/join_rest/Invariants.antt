use Rattle.std.proofs.Common.{◌≡◌}
use Rattle.gate_lanes.proofs.Joined.{joined_until}
use Rattle.gate_lanes.proofs.groups.join_rest.Given as goal

abbrev pub invariant-loop-at : goal.invariant-loop-at
invariant-loop-at g l = l.words ≡ joined_until (g.J.Join.join l.how) l.at l.initial.words l.others
