-- The events of a batch, grouped by generation and connection. A key is a pair of both.
use Rattle.std.specs.Prelude.{◌≡◌, ◌==◌, ◌&&◌, ℕ, List, Bool, fold, map}
use Rattle.std.specs.List.{All, list_all, list_any}
use Rattle.gate_record.specs.declared.event.Event.{Event}
use Rattle.gate_config.specs.declared.config.Config.{Config}
use Rattle.gate_config.specs.declared.generations.Generations.{Generations}
use Rattle.gate_config.specs.Generations.{config_at}
use Rattle.gate_config.specs.Lookups.{rules_of}
use Rattle.gate_config.specs.Selection.{is_listed}
use Rattle.gate_match.specs.declared.active.Active.{Active}
use Rattle.gate_match_rules.specs.Marks.{both, either}
use Rattle.gate_match_rules.specs.Narrowing.{meeting_any}

-- the events whose project tenant t lists under connection c
abbrev pub listed_in : Config → ℕ → ℕ → List Event → List Bool
listed_in config t c events = map (λ (event : Event). is_listed config t c event.project) events

-- The two keys are the same.
abbrev pub same_key : ℕ × ℕ → ℕ × ℕ → Bool
same_key key other = key.0 == other.0 && key.1 == other.1

abbrev pub key_of : Active → ℕ × ℕ
key_of active = (active.key.generation, active.key.conn)

-- the events of a key whose project the tenant lists under the connection of the key, in its generation
abbrev pub active_in : Generations → ℕ → ℕ × ℕ → List ((ℕ × ℕ) × Event) → List Bool
active_in gens t key batch = map (λ row. same_key row.0 key && is_listed (config_at gens key.0) t key.1 row.1.project) batch

-- Each of these has the rows of its key.
abbrev pub AreActive : Generations → ℕ → List ((ℕ × ℕ) × Event) → List Active → Type 0
AreActive gens t batch actives = All (λ (active : Active). active.rows ≡ active_in gens t (key_of active) batch) actives

abbrev pub is_key_of : List Active → ℕ × ℕ → Bool
is_key_of actives key = list_any (λ (active : Active). same_key key (key_of active)) actives

-- Each of the keys is one of these.
abbrev pub has_all : List Active → List (ℕ × ℕ) → Bool
has_all actives keys = list_all (is_key_of actives) keys

-- the rows of a key that pipeline p selects; `chosen` joins them over several keys
abbrev pub chosen_of : Generations → ℕ → ℕ → List Event → Active → List Bool
chosen_of gens t p events active = both active.rows (meeting_any (rules_of (config_at gens active.key.generation) t p active.key.conn) events)

abbrev pub chosen : Generations → ℕ → ℕ → List Event → List Bool → List Active → List Bool
chosen gens t p events rows actives = fold (λ so_far active. either so_far (chosen_of gens t p events active)) rows actives
