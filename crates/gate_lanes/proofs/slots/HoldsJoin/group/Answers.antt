use Rattle.std.proofs.Common.{eqb, replicate, sym, subst, ◌≡◌, w32}
use Rattle.gate_lanes.proofs.Chosen.{chosen}
use Rattle.std.proofs.lemmas.Simd.{tops_compared}
use Rattle.std.specs.Simd.Lanes.{sel_l, zip2}
use Rattle.gate_lanes.specs.Inner.Masks.{marked_too}
use Rattle.gate_lanes.specs.declared.TheConstants.{MARKED}
use Rattle.gate_lanes.proofs.slots.HoldsJoin.group.Goals as goal

pub returns : goal.returns
returns c =
    let cells = c.args.cells in
    let marks = c.args.marks in
    let id = c.args.self.now.id in
    subst (λ ms. sel_l ms (replicate 16 MARKED) marks ≡ zip2 (marked_too id) marks cells) (sym (tops_compared w32 eqb cells (replicate 16 id)))
    (chosen 16 id MARKED cells marks c.fits-cells.0 c.fits-marks.0)
