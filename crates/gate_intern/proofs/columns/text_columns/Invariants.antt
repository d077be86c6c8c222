use Rattle.std.proofs.Common.{◌≡◌, take, map}
use Rattle.gate_intern.specs.Columns.{column_at}
use Rattle.gate_intern.proofs.columns.text_columns.Given as goal

abbrev pub invariant-loop-field : goal.invariant-loop-field
invariant-loop-field l = l.texts ≡ map (λ field. column_at field l.events) (take l.field-index l.field-items)
