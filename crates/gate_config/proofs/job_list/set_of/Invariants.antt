use Rattle.std.proofs.Common.{take}
use Rattle.gate_config.specs.Inner.Jobs.{HasAll}
use Rattle.gate_config.proofs.job_list.set_of.Given as goal

abbrev pub invariant-loop-name : goal.invariant-loop-name
invariant-loop-name l = HasAll (take l.name-index l.names) l.set
