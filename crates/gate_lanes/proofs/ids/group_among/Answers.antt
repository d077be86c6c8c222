use Rattle.std.proofs.Common.{◌≡◌, ◌+◌, ℕ, Bool, eqb, get_or, map, replicate, sym, subst, take, arith, w32}
use Rattle.std.proofs.lemmas.List.Folds.{list_any_more}
use Rattle.std.proofs.lemmas.Simd.{splat_is_map, tops_compared}
use Rattle.std.specs.Simd.Lanes.{sel_l, zip2}
use Rattle.gate_lanes.proofs.Chosen.{one_word_more}
use Rattle.gate_lanes.specs.Masks.{is_among, mark_if}
use Rattle.gate_lanes.specs.declared.TheConstants.{MARKED}
use Rattle.gate_lanes.proofs.ids.group_among.Goals as goal

pub loop-id-init : goal.loop-id-init
loop-id-init c = splat_is_map c.args.column 16 0 c.fits-column.0

pub loop-id-preserved : goal.loop-id-preserved
loop-id-preserved c =
    let column = c.args.column in
    let ids = c.args.ids.now in
    let i = c.loop-id.id-index in
    let id = get_or ids i 0 in
    let before : ℕ → Bool = λ w. is_among (take i ids) w in
    let after : ℕ → Bool = λ w. is_among (take (i + 1) ids) w in
    subst (λ ms. sel_l ms (replicate 16 MARKED) c.loop-id.marks ≡ map (λ w. mark_if (after w)) column)
    (sym (tops_compared w32 eqb column (replicate 16 id)))
    (subst (λ marks. sel_l (zip2 eqb column (replicate 16 id)) (replicate 16 MARKED) marks ≡ map (λ w. mark_if (after w)) column)
    (sym c.loop-id.invariant)
    (one_word_more 16 id before after (λ w. list_any_more (λ x. eqb w x) ids i 0 (omega arith)) column c.fits-column.0))
