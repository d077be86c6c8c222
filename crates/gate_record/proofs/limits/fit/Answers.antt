use Rattle.std.proofs.Common.{◌∙◌, ◌+◌, drop, map, sym}
use Rattle.std.proofs.lemmas.List.{at_drop_more}
use Rattle.json.specs.Tape.{node_token}
use Rattle.gate_record.specs.Inner.Tapes.{fit}
use Rattle.gate_record.proofs.limits.fit.Goals as goal

pub returns-in-None : goal.returns-in-None
returns-in-None c =
    let left = map node_token (drop (c.loop-node.node-index + 1) c.args.nodes.now) in
    sym (c.in-None.ensures left) ∙ sym (at_drop_more (λ nodes. fit c.loop-node.level (map node_token nodes)) c.args.nodes.now c.loop-node.node-index _ c.loop-node-test.true) ∙ c.loop-node.invariant

pub loop-node-preserved : goal.loop-node-preserved
loop-node-preserved c =
    let left = map node_token (drop (c.loop-node.node-index + 1) c.args.nodes.now) in
    sym (c.in-Some.ensures left) ∙ sym (at_drop_more (λ nodes. fit c.loop-node.level (map node_token nodes)) c.args.nodes.now c.loop-node.node-index _ c.loop-node-test.true) ∙ c.loop-node.invariant
