use denote.Param.Send.{sendable}
use Rattle.std.proofs.Crossing.{crosses}
use Rattle.std.proofs.MapsCrossing.{crosses as maps}
use Rattle.std.proofs.MapsCrossingOver.{crosses as sets}
use Rattle.gate_run_crossing.proofs.crossing.config_crosses.Goals as goal

pub crosses-requires-sync-T : goal.crosses-requires-sync-T
crosses-requires-sync-T c κs = let y = c.pipeline_crosses.ensures.sync in search (sendable, crosses, maps, sets) depth 40 fits 20000
