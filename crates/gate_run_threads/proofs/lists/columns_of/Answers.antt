use Rattle.std.proofs.Common.{rules, ◌≡◌, ◌∙◌, sym, ap, [], ◌∷◌, length, map}
use Rattle.std.specs.List.{range_with_len}
use Rattle.std.specs.Vec.Iter.{into_iter_items}
use Rattle.gate_run_threads.specs.Tables.{dealt_all}
use Rattle.gate_run_threads.proofs.Paired.{map_length}
use Rattle.gate_run_threads.proofs.Places.{head_same, tail_same}
use Rattle.gate_run_threads.proofs.Grouped.{range_length}
use Rattle.gate_run_threads.proofs.Turned.{dealt_length}
use Rattle.gate_run_threads.proofs.lists.columns_of.Goals as goal

pub loop-row-init : goal.loop-row-init
loop-row-init g c =
    let made = c.in_ok-columns.ensures in
    let items : into_iter_items c.into_iter-row-iterator.result ≡ c.args.rows.items = search rules in (
      sym (map_length (λ column. column.items) c.in_ok-columns.columns.items) ∙ ap length made ∙ map_length (λ k. []) (range_with_len 0 c.args.width) ∙ range_length 0 c.args.width,
      ap (λ xs. map (λ row. length row.items) xs) items ∙ c.requires ∙ ap (λ xs. map (λ row. c.args.width) xs) (sym items),
      (λ i. dealt_all (made i) (map (λ row. row.items) (items i))),
    )

pub loop-row-preserved : goal.loop-row-preserved
loop-row-preserved g c =
    let (many, wide, all) = c.loop-row.invariant in
    let columns = map (λ column. column.items) c.loop-row.columns.items in
    let row = c.in-Some.row in
    let rest = into_iter_items c.next.new.self in
    let steps : into_iter_items c.loop-row.row-iterator ≡ row ∷ rest = search rules in
    let dealt_now = c.in_ok-columns-2.ensures.dealt in
    let wide' : map (λ r. length r.items) (row ∷ rest) ≡ map (λ r. c.args.width) (row ∷ rest) = ap (map (λ r. length r.items)) (sym steps) ∙ wide ∙ ap (map (λ r. c.args.width)) steps in
    let here : length row.items ≡ c.args.width = head_same (length row.items) c.args.width (map (λ r. length r.items) rest) (map (λ r. c.args.width) rest) wide' in
    let seen = map_length (λ column. column.items) c.loop-row.columns.items in (
      sym (map_length (λ column. column.items) c.in_ok-columns-2.columns.items) ∙ ap length dealt_now ∙ dealt_length columns row.items (here ∙ sym many ∙ sym seen) ∙ seen ∙ many,
      tail_same (length row.items) c.args.width (map (λ r. length r.items) rest) (map (λ r. c.args.width) rest) wide',
      (λ i. dealt_all (dealt_now i) (map (λ r. r.items) rest)) ∙ ap (λ xs. dealt_all columns (map (λ r. r.items) xs)) (sym steps) ∙ all,
    )
