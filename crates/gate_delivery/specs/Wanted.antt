-- Which records of a connection a pipeline wants, by their numbers, and which actions the stamps of records ask for.
use Rattle.std.specs.Prelude.{ℕ, List, Bool, Option, Some, None, option_and_then, slice_get, if◌then◌else◌}
use Rattle.std.specs.List.{enumerate_from, filter_map}
use Rattle.gate_record.specs.declared.ids.Stamp.{Stamp}
use Rattle.gate_record.specs.declared.reading.Reading.{Reading}
use Rattle.gate_record.specs.declared.reading.Reading.TheVariants as reading
use Rattle.gate_record.specs.declared.record.Record.{Record}
use Rattle.gate_record.specs.Reading.{reading_of}
use Rattle.gate_config.specs.declared.config.Config.{Config}
use Rattle.gate_config.specs.declared.generations.Generations.{Generations}
use Rattle.gate_config.specs.Generations.{config_at}
use Rattle.gate_config.specs.Selection.{selects}
use Rattle.gate_items.specs.declared.action.Action.{Action}
use Rattle.gate_pipeline.specs.Triggers.{trigger_of}

-- the number of a value, if the value passes the test
abbrev pub number_where : {X : Type 0} → (X → Bool) → ℕ × X → Option ℕ
number_where test entry = if test entry.1 then Some entry.0 else None

-- Pipeline p of tenant t selects the record by the generation in force at it.
abbrev pub selects_in_force : Generations → ℕ → ℕ → ℕ → ℕ × Record → Bool
selects_in_force gens t p c (g, line) = selects (config_at gens g) t p c line

-- The numbers of the records of connection c that pipeline p of tenant t selects, rising from 0. Each record is paired with the
-- generation in force at it.
abbrev pub wanted : Generations → ℕ → ℕ → ℕ → List (ℕ × Record) → List ℕ
wanted gens t p c records = filter_map (number_where (selects_in_force gens t p c)) (enumerate_from 0 records)

-- the action that a record with this stamp asks for, if the record is an event
abbrev pub asked_of : Config → ℕ → ℕ → Stamp → Reading → Option Action
asked_of config t p stamp (reading.Event event) = Some (trigger_of config t p stamp event)
asked_of config t p stamp (reading.Nothing why) = None

-- the action that a stamp asks for, if there is a stamp and its connection accepted a record with its number
abbrev pub asked_among : Config → ℕ → ℕ → (ℕ → List Record) → Option Stamp → Option Action
asked_among config t p records None = None
asked_among config t p records (Some stamp) =
    option_and_then (λ (line : Record). asked_of config t p stamp (reading_of line)) (slice_get (records stamp.conn.0) stamp.number)
