use Rattle.std.proofs.Common.{◌≡◌, map, take}
use Rattle.std.specs.List.{filter_map}
use Rattle.serde_json.specs.View.{view}
use Rattle.gate_record.specs.Approvals.{approval_of}
use Rattle.gate_record.specs.Limits.{most_approvals}
use Rattle.gate_record.proofs.approvals.approvals.Given as goal

-- the first approvals of the entries so far
abbrev pub invariant-loop-entry : goal.invariant-loop-entry
invariant-loop-entry l = l.approvals ≡ take most_approvals (filter_map approval_of (map view (take l.entry-index l.entry-items)))
