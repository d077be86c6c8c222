use Rattle.std.proofs.Common.{eqb, replicate, sym, subst, ◌≡◌, w32}
use Rattle.gate_lanes.proofs.Chosen.{chosen}
use Rattle.std.proofs.lemmas.Simd.{tops_compared}
use Rattle.std.specs.Simd.Lanes.{sel_l, zip2}
use Rattle.gate_lanes.specs.Masks.{cleared_if}
use Rattle.gate_lanes.specs.declared.TheConstants.{MARKED}
use Rattle.gate_lanes.proofs.joining.ClearJoin.group.Goals as goal

pub returns : goal.returns
returns c =
    let flags = c.args.flags in
    let words = c.args.words in
    subst (λ ms. sel_l ms (replicate 16 0) words ≡ zip2 cleared_if words flags) (sym (tops_compared w32 eqb flags (replicate 16 MARKED)))
    (chosen 16 MARKED 0 flags words c.fits-flags.0 c.fits-words.0)
