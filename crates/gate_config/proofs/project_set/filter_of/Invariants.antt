use Rattle.std.proofs.Common.{take}
use Rattle.gate_config.proofs.Filters.{HavePassed}
use Rattle.gate_config.proofs.project_set.filter_of.Given as goal

abbrev pub invariant-loop-name : goal.invariant-loop-name
invariant-loop-name l = HavePassed (take l.name-index l.names) l.filter
