use Rattle.std.specs.Prelude.{◌≡◌}
use Rattle.gate_run_reader.proofs.running.RunningReader.offer.Given as goal

abbrev pub invariant-loop : goal.invariant-loop
invariant-loop g l =
    ((goal.iterator-loop g).can_next l.iterator' × (goal.iterator-loop g).is_finite l.iterator')
    × (l.waiting ≡ l.fn.line)
    × (l.self.source ≡ l.fn.self.source)
    × (l.self.renewals ≡ l.fn.self.renewals)
    × (l.self.note.cell ≡ l.fn.self.note.cell)
