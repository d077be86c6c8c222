use Rattle.std.proofs.Common.{◌≡◌, ◌++◌, flat_map, string_bytes, length}
use Rattle.gate_journal.specs.Lines.{cancel_line}
use Rattle.gate_journal.proofs.begun.push_cancelled.Given as goal

-- what is written and the lines of what is left make the whole
abbrev pub invariant-loop-set : goal.invariant-loop-set
invariant-loop-set l = string_bytes l.out ++ flat_map (cancel_line l.place.config.now l.place.tenant.0 l.place.pipeline.0 l.cause) l.rest.items ≡ string_bytes l.fn.out ++ flat_map (cancel_line l.place.config.now l.place.tenant.0 l.place.pipeline.0 l.cause) l.fn.sets.items

abbrev pub decreases-loop-set : goal.decreases-loop-set
decreases-loop-set l = length l.rest.items
