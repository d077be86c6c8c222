use Rattle.std.proofs.Common.{◌≡◌, ◌≤◌, ◌++◌, List, length, take}
use Rattle.std.specs.List.{filter_map}
use Rattle.serde_json.specs.Data.{Data}
use Rattle.gate_record.specs.Approvals.{approval_of}
use Rattle.gate_record.specs.Inner.Tapes.{GoesOn}
use Rattle.gate_record.specs.Limits.{most_approvals}
use Rattle.gate_record.proofs.fields.push_approvals.Given as goal

-- the approvals so far, and those of what is left
abbrev pub invariant-loop-entry : goal.invariant-loop-entry
invariant-loop-entry l =
    (length l.approvals ≤ most_approvals)
    × ((values : List Data) → GoesOn l.initial.entries values
    → (rest : List Data) × GoesOn l.entries rest × (take most_approvals (l.approvals ++ filter_map approval_of rest) ≡ take most_approvals (l.initial.approvals ++ filter_map approval_of values)))

abbrev pub decreases-loop-entry : goal.decreases-loop-entry
decreases-loop-entry l = length l.entries
