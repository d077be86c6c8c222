use Rattle.gate_core.proofs.EveryChain.{every_chain}
use Rattle.gate_core.proofs.laws.every_chain_delivers.Goals as goal

pub returns : goal.returns
returns c =
    let parts = c.parts_deliver.ensures in
    every_chain (record { gets = parts.gets; entries = parts.entries; records = parts.records }) parts.own parts.lossless parts.says parts.late
