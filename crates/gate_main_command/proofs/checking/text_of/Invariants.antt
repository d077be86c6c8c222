use Rattle.std.specs.Prelude.{◌≡◌, ◌-◌, ◌++◌, string_bytes}
use Rattle.std.specs.List.{flat_map, range_with_len}
use Rattle.gate_config.specs.CheckText.{check_text}
use Rattle.gate_config.specs.Generations.{config_at, count_of}
use Rattle.gate_main_command.specs.Printed.{generations_text}
use Rattle.gate_main_command.proofs.checking.text_of.Given as goal

-- what the generations so far say, and then the others
abbrev pub invariant-loop-g : goal.invariant-loop-g
invariant-loop-g l = string_bytes l.text ++ flat_map (λ g. check_text (config_at l.gens g)) (range_with_len l.g (count_of l.gens - l.g)) ≡ generations_text l.gens
