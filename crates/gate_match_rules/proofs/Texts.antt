-- The rows whose text passes, by the numbers of the texts that pass.
use Rattle.std.proofs.Common.{◌≡◌, ℕ, List, Bool, map}
use Rattle.gate_record.specs.declared.event.Event.{Event}
use Rattle.gate_lanes.specs.Masks.{is_among}
use Rattle.gate_intern.specs.declared.field.Field.{Field}
use Rattle.gate_intern.specs.Columns.{column_of, field_of, texts_of}
use Rattle.gate_intern.specs.Marks.{TextsMarkTheirEvents, numbers_where, passes}
use Rattle.gate_match_rules.specs.Finding.{passing_in}
use Rattle.gate_match_rules.proofs.Masks.{marked_alike}

-- the rows of a field's column whose text passes are the events in whose field it passes
pub rows_pass : TextsMarkTheirEvents → (field : Field) (test : List ℕ → Bool) (events : List Event) →
    map (is_among (numbers_where test (texts_of field events))) (column_of field events) ≡ passing_in field test events
rows_pass law field test events =
    marked_alike (is_among (numbers_where test (texts_of field events))) (λ (event : Event). passes test (field_of field event)) (column_of field events) events (law field events test)
