use Rattle.std.specs.Prelude.{◌≡◌}
use Rattle.gate_run_reader.proofs.running.RunningReader.end.Given as goal

abbrev pub invariant-loop : goal.invariant-loop
invariant-loop g l =
    ((goal.iterator-loop g).can_next l.iterator' × (goal.iterator-loop g).is_finite l.iterator')
    × (l.source ≡ l.fn.self.source)
    × (l.renewals.items ≡ l.fn.self.renewals.items)
