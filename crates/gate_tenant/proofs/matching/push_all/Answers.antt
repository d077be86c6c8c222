use Rattle.std.proofs.Common.{rules, ◌≡◌, ◌∙◌, ◌<◌, ◌+◌, ◌++◌, ◌∷◌, [], sym, ap, arith, flat_map, length, map, take, drop, append-nil, append_assoc}
use Rattle.std.proofs.lemmas.List.{take-append-drop, take_more}
use Rattle.std.proofs.lemmas.Grind.{flat_map-append}
use Rattle.std.proofs.Math.ListN.{length-append}
use Rattle.gate_match.specs.Selecting.{masks_of}
use Rattle.gate_tenant.specs.Inner.Batches.{given_by, row_in, rows_of}
use Rattle.gate_tenant.specs.Dispatching.{by_pipeline}
use Rattle.gate_tenant.proofs.Batches.{given_is, one_row}
use Rattle.gate_tenant.proofs.matching.push_all.Goals as goal

pub loop-item-preserved : goal.loop-item-preserved
loop-item-preserved c =
    let gens = c.args.gens.now in
    let t = c.args.tenant.0 in
    let all = c.args.gathered.now in
    let i = c.loop-item.item-index in
    let item = c.item-item.result in
    let front = take i all in
    let back = drop (i + 1) all in
    let (given, row, few) = c.loop-item.invariant in
    let low : i < length all = search rules in
    let more : take (i + 1) all ≡ front ++ item ∷ [] = take_more all i item low ∙ ap (λ x. front ++ x ∷ []) (sym c.item-item.is) in
    let whole : front ++ item ∷ back ≡ all = sym (append_assoc front (item ∷ []) back) ∙ ap (λ xs. xs ++ back) (sym more) ∙ take-append-drop (i + 1) all in
    let gets = by_pipeline gens t in
    let step : given_by gens.first t (map (λ mask. mask.items) c.args.masks.now) c.loop-item.row item ≡ gets item =
    (λ j. given_by gens.first t (c.requires j) (row j) item)
    ∙ (λ j. given_by gens.first t (masks_of gens t (rows_of (sym whole j))) (length (rows_of front)) item)
    ∙ given_is gens t front back item in
    let one = one_row item in
    let next = c.in_ok-row.ensures.row in (
      c.in_ok-row.ensures.items
          ∙ ap (λ config. c.loop-item.items.items ++ given_by config t (map (λ mask. mask.items) c.args.masks.now) c.loop-item.row item) c.first-config.ensures
          ∙ (λ j. given j ++ step j)
          ∙ sym (ap (flat_map gets) more ∙ flat_map-append gets front (item ∷ []) ∙ ap (λ ys. flat_map gets front ++ ys) (append-nil (gets item))),
      next ∙ ap (λ n. n + length (row_in item)) row
          ∙ sym (ap (λ xs. length (rows_of xs)) more ∙ ap length (flat_map-append row_in front (item ∷ [])) ∙ length-append (rows_of front) (flat_map row_in (item ∷ [])) ∙ ap (λ ys. length (rows_of front) + length ys) (append-nil (row_in item))),
      omega (arith, few, one, next),
    )
