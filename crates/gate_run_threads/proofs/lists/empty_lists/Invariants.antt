use Rattle.std.specs.Prelude.{◌≡◌, map, vec_items}
use Rattle.gate_run_threads.specs.Tables.{empties}
use Rattle.gate_run_threads.proofs.lists.empty_lists.Given as goal

abbrev pub invariant-loop-list : goal.invariant-loop-list
invariant-loop-list g l = map (λ list. list.items) (vec_items l.lists) ≡ empties l._list
