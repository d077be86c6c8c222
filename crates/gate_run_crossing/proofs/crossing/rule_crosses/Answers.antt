use denote.Param.Send.{sendable}
use Rattle.std.proofs.Crossing.{crosses}
use Rattle.std.proofs.MapsCrossing.{crosses as maps}
use Rattle.gate_run_crossing.proofs.crossing.rule_crosses.Goals as goal

pub crosses-requires-send-T : goal.crosses-requires-send-T
crosses-requires-send-T c κs = let s = c.entry_crosses.ensures.send in search (sendable, crosses, maps) depth 40 fits 20000

pub crosses-requires-sync-T : goal.crosses-requires-sync-T
crosses-requires-sync-T c κs = let y = c.entry_crosses.ensures.sync in search (sendable, crosses, maps) depth 40 fits 20000
