use Rattle.gate_run_crossing.proofs.Crosses.{generations_send, generations_sync}
use Rattle.gate_run_crossing.proofs.crossing.generations_cross.Goals as goal

pub returns-clause-send : goal.returns-clause-send
returns-clause-send c = generations_send c.config_crosses.ensures.send

pub returns-clause-sync : goal.returns-clause-sync
returns-clause-sync c = generations_sync c.config_crosses.ensures.sync
