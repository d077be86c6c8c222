use Rattle.std.proofs.Common.{◌≡◌}
use Rattle.std.specs.List.{list_all}
use Rattle.gate_config.specs.Inner.Comparing.{agree_at, agree_on}
use Rattle.gate_config.proofs.comparing.agree_at.Given as goal

abbrev pub invariant-loop-project : goal.invariant-loop-project
invariant-loop-project l = list_all (agree_on l.first l.other) l.project-iterator ≡ agree_at l.first l.other l.projects
