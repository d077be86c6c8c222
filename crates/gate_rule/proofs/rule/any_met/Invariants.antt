use Rattle.std.proofs.Common.{◌≡◌, false, take}
use Rattle.std.specs.List.{list_any}
use Rattle.gate_rule.specs.Inner.Reaching.{tried}
use Rattle.gate_rule.proofs.rule.any_met.Given as goal

-- none of the entries so far is met
abbrev pub invariant-loop-entry : goal.invariant-loop-entry
invariant-loop-entry l = list_any (λ entry. tried l.reach entry l.text) (take l.entry-index l.entries) ≡ false
