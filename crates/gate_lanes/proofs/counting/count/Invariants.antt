use Rattle.std.proofs.Common.{◌≡◌, ◌-◌, ◌≤◌, length, take}
use Rattle.gate_lanes.specs.Masks.{count_marked}
use Rattle.gate_lanes.proofs.counting.count.Given as goal

abbrev pub invariant-loop-at : goal.invariant-loop-at
invariant-loop-at l = record {
  within : l.at ≤ length l.mask;
  total : l.total ≡ count_marked (take l.at l.mask);
}

abbrev pub decreases-loop-at : goal.decreases-loop-at
decreases-loop-at l = length l.mask - l.at
