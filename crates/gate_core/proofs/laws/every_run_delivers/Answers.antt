use Rattle.gate_core.proofs.EveryRun.{every_run}
use Rattle.gate_core.proofs.laws.every_run_delivers.Goals as goal

pub returns : goal.returns
returns c =
    let parts = c.parts_deliver.ensures in
    every_run (record { gets = parts.gets; entries = parts.entries; records = parts.records }) parts.own parts.lossless parts.says parts.late
