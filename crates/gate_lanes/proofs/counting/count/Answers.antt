use Rattle.std.proofs.Common.{◌≡◌, ◌+◌, ◌∙◌, ap, sym, arith, take, drop, take-add}
use Rattle.std.proofs.lemmas.List.Sums.{sum_by-append}
use Rattle.std.proofs.lemmas.List.{take-append-drop, take_rest}
use Rattle.gate_lanes.specs.Masks.{count_marked}
use Rattle.gate_lanes.proofs.counting.count.Goals as goal

pub loop-at-preserved : goal.loop-at-preserved
loop-at-preserved c =
    let mask = c.args.mask.now in
    let at = c.loop-at.at in
    let split : count_marked (take (at + 16) mask) ≡ count_marked (take at mask) + count_marked (take 16 (drop at mask)) =
    ap count_marked (take-add at 16 mask) ∙ sum_by-append _ (take at mask) (take 16 (drop at mask)) in
    record { within = omega arith; total = omega (arith, split, c.count_group.ensures, c.loop-at.invariant.total) }

pub returns : goal.returns
returns c =
    let mask = c.args.mask.now in
    let at = c.loop-at.at in
    let split : count_marked mask ≡ count_marked (take at mask) + count_marked (drop at mask) =
    ap count_marked (sym (take-append-drop at mask)) ∙ sum_by-append _ (take at mask) (drop at mask) in
    let rest : c.count_rest.result ≡ count_marked (drop at mask) = c.count_rest.ensures ∙ ap count_marked (take_rest mask at) in
    omega (arith, split, rest, c.loop-at.invariant.total)
