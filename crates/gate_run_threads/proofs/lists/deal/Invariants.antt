use Rattle.std.specs.Prelude.{◌≡◌, ◌++◌, length, map, vec_items}
use Rattle.std.specs.Vec.Iter.{into_iter_items}
use Rattle.gate_run_threads.specs.Tables.{dealt}
use Rattle.gate_run_threads.proofs.lists.deal.Given as goal

abbrev pub invariant-loop-column : goal.invariant-loop-column
invariant-loop-column g l =
    (map (λ column. column.items) (vec_items l.longer) ++ dealt (map (λ column. column.items) (into_iter_items l.column-iterator)) (into_iter_items l.values) ≡ dealt (map (λ column. column.items) l.fn.columns.items) l.fn.row.items)
    × (length (into_iter_items l.values) ≡ length (into_iter_items l.column-iterator))
