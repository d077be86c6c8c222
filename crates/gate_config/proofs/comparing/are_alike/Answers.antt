use Rattle.std.proofs.Common.{rules}
use Rattle.gate_config.proofs.SameStructure.{alike_by}
use Rattle.gate_config.proofs.comparing.are_alike.Goals as goal

pub returns-then-all_alike : goal.returns-then-all_alike
returns-then-all_alike c = alike_by c.args.first.now c.args.other.now _ (search rules)

pub returns-else-all_alike : goal.returns-else-all_alike
returns-else-all_alike c = alike_by c.args.first.now c.args.other.now _ (search rules)
