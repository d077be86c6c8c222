use Rattle.gate_run_crossing.proofs.Crosses.{entry_send, entry_sync}
use Rattle.gate_run_crossing.proofs.crossing.entry_crosses.Goals as goal

pub returns-clause-send : goal.returns-clause-send
returns-clause-send c = entry_send c.pattern_crosses.ensures.send

pub returns-clause-sync : goal.returns-clause-sync
returns-clause-sync c = entry_sync c.pattern_crosses.ensures.sync
