use Rattle.std.specs.Prelude.{◌≡◌, length}
use Rattle.gate_run_posts.proofs.asked.open_cells.Given as goal

abbrev pub invariant-loop-cell : goal.invariant-loop-cell
invariant-loop-cell l = length l.cells ≡ l._cell
