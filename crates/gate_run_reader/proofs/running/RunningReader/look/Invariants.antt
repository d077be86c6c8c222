use Rattle.std.specs.Prelude.{◌≡◌}
use Rattle.gate_run_reader.specs.Inner.Readers.{Continues}
use Rattle.gate_run_reader.proofs.running.RunningReader.look.Given as goal

abbrev pub invariant-loop : goal.invariant-loop
invariant-loop g l =
    Continues l.context.generations l.context.cells.now l.fn.self l.self
    × (l.self.source.seat.queue ≡ l.fn.self.source.seat.queue)
    × (l.self.note.cell ≡ l.fn.self.note.cell)
