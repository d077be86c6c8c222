use Rattle.gate_queue.proofs.Keeps.{begins}
use Rattle.gate_queue.proofs.opening.open.Goals as goal

pub ruled-requires-clause-rule : goal.ruled-requires-clause-rule
ruled-requires-clause-rule g c = begins
