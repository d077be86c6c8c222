use Rattle.std.proofs.Common.{◌∙◌, ◌+◌, ◌-◌, length, ap, arith, refl}
use Rattle.std.specs.Simd.Lanes.{chunk, put_chunk, zip2}
use borrow.Rule.Slice.PartMut.{put_mid}
use Rattle.gate_lanes.proofs.Joined.{group_joined, rest_joined}
use Rattle.gate_lanes.proofs.groups.join_all.Goals as goal

pub loop-words-preserved : goal.loop-words-preserved
loop-words-preserved g c =
    let f = g.J.Join.join c.args.how.now in
    let at = c.loop-words.at in
    let others = c.args.others.now in record {
      within = omega arith;
      joined =
          ap (λ group. put_chunk at c.loop-words.words group) c.group.ensures
          ∙ ap (λ words. put_chunk at words (zip2 f (chunk at 16 words) (chunk at 16 others))) c.loop-words.invariant.joined
          ∙ group_joined f at 16 (at + 16) c.args.words.now others c.requires refl (omega arith);
    }

pub returns : goal.returns
returns g c =
    let f = g.J.Join.join c.args.how.now in
    let at = c.loop-words.at in
    let now = c.loop-words.words in
    ap (λ rest. put_mid at (length now - at) now rest) c.join_rest.ensures
    ∙ rest_joined f at c.args.words.now c.args.others.now now c.loop-words.invariant.joined c.requires (omega arith)
