-- The invariant of a batch's columns.
use Rattle.std.specs.Prelude.{◌≡◌, ◌≤◌, length}
use Rattle.gate_intern.specs.Columns.{approval_cells_of, approvals_of, columns_of, deletes_of}
use Rattle.gate_intern.specs.declared.columns.Columns.TheInside.{Inside}
use Rattle.gate_intern.specs.Limits.{most_rows}

-- Each part is what its definition computes from the events, of which there are at most `most_rows`.
pub record AreOfEvents (c : Inside) : Type 0 where
  pub few : length c.events.now ≤ most_rows
  pub texts : c.texts ≡ columns_of c.events.now
  pub approvals : c.approvals ≡ approvals_of c.events.now
  pub cells : c.cells ≡ approval_cells_of c.events.now
  pub deletes : c.deletes ≡ deletes_of c.events.now
