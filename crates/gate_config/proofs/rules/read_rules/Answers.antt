use Rattle.std.proofs.Common.{◌≡◌, ℕ, List, [], ◌∷◌, Option, Some, None, Result, map, nat_le, option_map}
use Rattle.serde_json.specs.Data.{Data}
use Rattle.serde_json.specs.View.{view}
use Rattle.gate_rule.specs.declared.rule.Rule.{Rule}
use Rattle.gate_config.specs.declared.fault.ConfigFault.{ConfigFault}
use Rattle.gate_config.specs.declared.fault.ConfigFault.TheVariants.{Limit}
use Rattle.gate_config.specs.declared.path.Step.{Step}
use Rattle.gate_config.specs.Checks.{rule_checks_at, rules_checks}
use Rattle.gate_config.specs.Document.{rule_texts, rules_at}
use Rattle.gate_config.specs.Faults.{Asks}
use Rattle.gate_config.specs.Inner.Faults.{Reads}
use Rattle.gate_config.specs.Inner.Listed.{listed_checks, listed_texts}
use Rattle.gate_config.specs.Inner.Steps.{steps_of}
use Rattle.gate_config.specs.Limits.{most_rules}
use Rattle.gate_config.specs.Texts.{texts_of_rule}
use Rattle.gate_config.proofs.rules.read_rules.Goals as goal

-- the checks and the rules of a connection are those of one rule or a list of rules
of_connection : (here : List Step) (value : Option Data) (r : Result (List Rule) ConfigFault) →
    Reads (listed_checks (λ place count. Asks (nat_le count most_rules) (Limit place) ∷ []) (λ place position. []) rule_checks_at here value) (λ rules. map texts_of_rule rules ≡ listed_texts rule_texts value) r →
    Reads (rules_checks here value) (λ rules. map texts_of_rule rules ≡ rules_at value) r
of_connection here None r h = h
of_connection here (Some value) r h = h

pub returns : goal.returns
returns c = of_connection (steps_of c.args.here.now) (option_map (λ v. view v.now) c.args.value) c.read_one_or_list.result c.read_one_or_list.ensures
