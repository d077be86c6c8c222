use Rattle.std.proofs.Common.{◌≡◌, map, take, None}
use Rattle.gate_items.proofs.trigger.open_jobs.Given as goal

abbrev pub invariant-loop-name : goal.invariant-loop-name
invariant-loop-name l = l.jobs.items ≡ map (λ name. (name, None)) (take l.name-index l.name-items)
