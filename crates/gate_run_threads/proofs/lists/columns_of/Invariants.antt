use Rattle.std.specs.Prelude.{◌≡◌, length, map, vec_items}
use Rattle.std.specs.Vec.Iter.{into_iter_items}
use Rattle.gate_run_threads.specs.Tables.{dealt_all, empties}
use Rattle.gate_run_threads.proofs.lists.columns_of.Given as goal

abbrev pub invariant-loop-row : goal.invariant-loop-row
invariant-loop-row g l =
    (length (vec_items l.columns) ≡ l.fn.width)
    × (map (λ row. length row.items) (into_iter_items l.row-iterator) ≡ map (λ row. l.fn.width) (into_iter_items l.row-iterator))
    × (dealt_all (map (λ column. column.items) (vec_items l.columns)) (map (λ row. row.items) (into_iter_items l.row-iterator)) ≡ dealt_all (empties l.fn.width) (map (λ row. row.items) l.fn.rows.items))
