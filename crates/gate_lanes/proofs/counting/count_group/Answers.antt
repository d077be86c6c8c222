use Rattle.std.proofs.Common.{eqb, ap, ◌∙◌, w32, lit≤}
use Rattle.std.proofs.lemmas.Simd.{bitmask_splat, ones-mask_l}
use Rattle.std.specs.Int.RustNames.{count_ones}
use Rattle.gate_lanes.specs.declared.TheConstants.{MARKED}
use Rattle.gate_lanes.proofs.counting.count_group.Goals as goal

pub returns : goal.returns
returns c = ap count_ones (bitmask_splat w32 eqb c.args.words 16 MARKED c.fits-words.0 (lit≤ tt)) ∙ ones-mask_l (λ w. eqb w MARKED) c.args.words
