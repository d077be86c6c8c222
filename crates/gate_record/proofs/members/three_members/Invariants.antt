use Rattle.std.proofs.Common.{length}
use Rattle.gate_record.proofs.Several.{HaveSeen}
use Rattle.gate_record.proofs.members.three_members.Given as goal

abbrev pub invariant-loop-key : goal.invariant-loop-key
invariant-loop-key l = HaveSeen l.outer l.members l.first l.second l.third l.at_first l.at_second l.at_third

abbrev pub decreases-loop-key : goal.decreases-loop-key
decreases-loop-key l = length l.members
