use Rattle.std.proofs.Common.{◌∙◌, ◌%◌, ap, length}
use Rattle.gate_intern.specs.Columns.{approval_cells_of, approvals_of}
use Rattle.gate_intern.proofs.Slots.{whole_slots}
use Rattle.gate_intern.proofs.columns.Columns.approval_cells.Goals as goal

pub returns-clause-cells : goal.returns-clause-cells
returns-clause-cells c = c.as_slice.ensures ∙ c.self.invariant.cells ∙ ap approval_cells_of c.self.view_is

pub returns-clause-whole : goal.returns-clause-whole
returns-clause-whole c =
    let events = c.args.self.now in
    ap (λ cells. length cells % length events) (c.as_slice.ensures ∙ c.self.invariant.cells ∙ ap approval_cells_of c.self.view_is)
    ∙ whole_slots (approvals_of events) events
