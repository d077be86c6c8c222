use Rattle.std.proofs.Common.{◌≡◌, ◌-◌, ◌≤◌, length}
use Rattle.gate_lanes.proofs.Joined.{joined_until}
use Rattle.gate_lanes.proofs.groups.join_all.Given as goal

abbrev pub invariant-loop-words : goal.invariant-loop-words
invariant-loop-words g l = record {
  within : l.at ≤ length l.initial.words;
  joined : l.words ≡ joined_until (g.J.Join.join l.how) l.at l.initial.words l.others;
}

abbrev pub decreases-loop-words : goal.decreases-loop-words
decreases-loop-words g l = length l.initial.words - l.at
