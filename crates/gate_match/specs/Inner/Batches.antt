-- The events of a batch and their keys.
use Rattle.std.specs.Prelude.{ℕ, List}
use Rattle.std.specs.List.{zip}
use Rattle.gate_record.specs.declared.event.Event.{Event}
use Rattle.gate_match.specs.declared.batch.Batch.{Batch}

abbrev pub events_in : Batch → List Event
events_in batch = batch.search.columns.now

-- the generation and the connection of each event
abbrev pub keys_in : Batch → List (ℕ × ℕ)
keys_in batch = zip batch.gens.now batch.conns.now

-- the events, each beside its key
abbrev pub rows_in : Batch → List ((ℕ × ℕ) × Event)
rows_in batch = zip (keys_in batch) (events_in batch)
