-- The table of a tenant's rules, by generation, pipeline and connection.
use Rattle.std.specs.Prelude.{◌≡◌, ℕ, List, Bool}
use Rattle.std.specs.List.{All, list_any}
use Rattle.gate_record.specs.declared.event.Event.{Event}
use Rattle.gate_rule.specs.declared.rule.Rule.{Rule}
use Rattle.gate_rule.specs.Rule.{meets}
use Rattle.gate_config.specs.declared.generations.Generations.{Generations}
use Rattle.gate_config.specs.Generations.{config_at}
use Rattle.gate_config.specs.Lookups.{rules_of}
use Rattle.gate_match.specs.declared.rules_of_conn.RulesOfConn.{RulesOfConn}
use Rattle.gate_match_rules.specs.Compiling.{rules_in}

-- The event meets one of the rules.
abbrev pub meets_any : List Rule → Event → Bool
meets_any rules event = list_any (λ rule. meets rule event) rules

-- An event meets one of these rules exactly if it meets one of the others.
abbrev pub AskAlike : List Rule → List Rule → Type 0
AskAlike rules others = (event : Event) → meets_any rules event ≡ meets_any others event

-- The entry's rules ask the same as the configuration's rules for its pipeline and connection in its generation.
abbrev pub IsOfGenerations : Generations → ℕ → RulesOfConn → Type 0
IsOfGenerations gens t entry = AskAlike (rules_in entry.rules.items) (rules_of (config_at gens entry.key.generation) t entry.pipeline entry.key.conn)

abbrev pub AreOfGenerations : Generations → ℕ → List RulesOfConn → Type 0
AreOfGenerations gens t table = All (IsOfGenerations gens t) table
