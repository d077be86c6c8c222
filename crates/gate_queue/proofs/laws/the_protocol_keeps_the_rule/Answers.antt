use Rattle.gate_queue.proofs.Rules.{keeps_the_rule}
use Rattle.gate_queue.proofs.laws.the_protocol_keeps_the_rule.Goals as goal

pub returns : goal.returns
returns c c' = keeps_the_rule _
