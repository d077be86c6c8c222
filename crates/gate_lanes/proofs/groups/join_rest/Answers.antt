use Rattle.std.proofs.Common.{◌∙◌, ap, sym, arith, add-one, get_or}
use Rattle.std.proofs.Math.ListN.{set}
use Rattle.gate_lanes.proofs.Joined.{all_joined, one_joined, joined_until}
use Rattle.gate_lanes.proofs.groups.join_rest.Goals as goal

pub loop-at-preserved : goal.loop-at-preserved
loop-at-preserved g c =
    let f = g.J.Join.join c.args.how.now in
    let at = c.loop-at.at in
    let words = c.args.words.now in
    let others = c.args.others.now in
    ap (λ word. set c.loop-at.words at word) c.word.ensures
    ∙ ap (λ now. set now at (f (get_or now at 0) (get_or others at 0))) c.loop-at.invariant
    ∙ one_joined f at words others c.requires (omega arith)
    ∙ ap (λ m. joined_until f m words others) (sym (add-one at))

pub returns : goal.returns
returns g c =
    let f = g.J.Join.join c.args.how.now in
    c.loop-at.invariant ∙ all_joined f c.loop-at.at c.args.words.now c.args.others.now c.requires (omega arith)
