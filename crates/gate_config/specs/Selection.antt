-- Which records a pipeline selects.
use Rattle.std.specs.Prelude.{ℕ, List, Bool, false, ◌&&◌, Option, Some, None}
use Rattle.std.specs.List.{list_any}
use Rattle.gate_record.specs.declared.event.Event.{Event}
use Rattle.gate_record.specs.declared.record.Record.{Record}
use Rattle.gate_record.specs.declared.reading.Reading.{Reading}
use Rattle.gate_record.specs.declared.reading.Reading.TheVariants as reading
use Rattle.gate_record.specs.Reading.{reading_of}
use Rattle.gate_rule.specs.Rule.{meets}
use Rattle.gate_config.specs.declared.config.Config.{Config}
use Rattle.gate_config.specs.Lookups.{belongs, rules_of}

-- The event has a project, and the tenant lists it under the connection.
abbrev pub is_listed : Config → ℕ → ℕ → Option (List ℕ) → Bool
is_listed config t c None = false
is_listed config t c (Some project) = belongs config t c project

-- Pipeline p of tenant t selects the event of connection c: the tenant lists its project, and it meets one of the pipeline's
-- rules for the connection.
abbrev pub selects_event : Config → ℕ → ℕ → ℕ → Event → Bool
selects_event config t p c event = is_listed config t c event.project && list_any (λ rule. meets rule event) (rules_of config t p c)

abbrev pub selects_reading : Config → ℕ → ℕ → ℕ → Reading → Bool
selects_reading config t p c (reading.Event event) = selects_event config t p c event
selects_reading config t p c (reading.Nothing why) = false

-- Pipeline p of tenant t selects the record of connection c: it is read as an event that the pipeline selects.
abbrev pub selects : Config → ℕ → ℕ → ℕ → Record → Bool
selects config t p c record' = selects_reading config t p c (reading_of record')
