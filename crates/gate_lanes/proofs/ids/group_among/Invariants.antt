use Rattle.std.proofs.Common.{◌≡◌, map, take}
use Rattle.gate_lanes.specs.Masks.{is_among, mark_if}
use Rattle.gate_lanes.proofs.ids.group_among.Given as goal

abbrev pub invariant-loop-id : goal.invariant-loop-id
invariant-loop-id l = l.marks ≡ map (λ word. mark_if (is_among (take l.id-index l.ids) word)) l.column
