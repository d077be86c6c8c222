use Rattle.std.proofs.Common.{◌≡◌, drop, map}
use Rattle.json.specs.Tape.{node_token}
use Rattle.gate_record.specs.Inner.Tapes.{fit}
use Rattle.gate_record.proofs.limits.fit.Given as goal

-- what is left decides
abbrev pub invariant-loop-node : goal.invariant-loop-node
invariant-loop-node l = fit l.level (map node_token (drop l.node-index l.nodes)) ≡ fit 0 (map node_token l.nodes)
