use Rattle.gate_queue.proofs.Rules.{is_the_protocols}
use Rattle.gate_queue.proofs.laws.the_rule_is_the_protocols.Goals as goal

pub returns : goal.returns
returns c c' = is_the_protocols _
