use Rattle.gate_config.proofs.Each.{TestedSoFar}
use Rattle.gate_config.specs.Checks.{entry_key_checks}
use Rattle.gate_config.specs.Inner.Found.{key_view}
use Rattle.gate_config.specs.Inner.Steps.{steps_of}
use Rattle.gate_config.proofs.entries.check_each_key.Given as goal

abbrev pub invariant-loop-key : goal.invariant-loop-key
invariant-loop-key l = TestedSoFar (λ _. entry_key_checks (steps_of l.here)) key_view l.keys l.key-index
