use Rattle.gate_config.proofs.Each.{TestedSoFar}
use Rattle.gate_config.specs.Checks.{stanza_checks}
use Rattle.gate_config.specs.Inner.Found.{found_view}
use Rattle.gate_config.specs.Inner.Lookups.{names_of}
use Rattle.gate_config.specs.Inner.Steps.{steps_of}
use Rattle.gate_config.proofs.stanzas.check_stanzas.Given as goal

abbrev pub invariant-loop-entry : goal.invariant-loop-entry
invariant-loop-entry l = TestedSoFar (λ _. stanza_checks (names_of l.pipelines) (steps_of l.place)) found_view l.entries l.entry-index
