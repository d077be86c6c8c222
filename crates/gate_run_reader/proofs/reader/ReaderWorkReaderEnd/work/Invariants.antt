use Rattle.std.specs.Prelude.{◌≡◌}
use Rattle.gate_run_reader.specs.Inner.Readers.{IsReading}
use Rattle.gate_run_reader.proofs.reader.ReaderWorkReaderEnd.work.Given as goal

abbrev pub invariant-loop : goal.invariant-loop
invariant-loop g l =
    ((goal.iterator-loop g).can_next l.iterator' × (goal.iterator-loop g).is_finite l.iterator')
    × IsReading (g.F.RecordFeed.to_come l.fn.self.feed) (g.F.RecordFeed.to_come l.feed) l.fn.self.tail l.fn.self.generations l.fn.self.cells.now l.reading.source l.reading.renewals.items
    × (g.F.RecordFeed.fault_count l.feed ≡ g.F.RecordFeed.fault_count l.fn.self.feed)
    × (l.reading.note.cell ≡ l.fn.self.note.cell)
    × (l.reading.source.seat.queue ≡ l.fn.self.tail.queue)
