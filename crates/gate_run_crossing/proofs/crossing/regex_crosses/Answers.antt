use Rattle.gate_run_crossing.proofs.Crosses.{regex_send, regex_sync}
use Rattle.gate_run_crossing.proofs.crossing.regex_crosses.Goals as goal

pub returns-clause-send : goal.returns-clause-send
returns-clause-send c = regex_send c.hir_crosses.ensures.send

pub returns-clause-sync : goal.returns-clause-sync
returns-clause-sync c = regex_sync c.hir_crosses.ensures.sync
