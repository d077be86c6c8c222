use Rattle.std.specs.Prelude.{◌≡◌, drop, length, vec_items}
use Rattle.std.specs.Vec.Iter.{into_iter_items}
use Rattle.gate_run_threads.specs.Lists.{EachAt}
use Rattle.gate_run.specs.Inner.Seatings.{IsReaderOf, cells_of}
use Rattle.gate_run.proofs.seating.seat_readers.Given as goal

abbrev pub invariant-loop-number : goal.invariant-loop-number
invariant-loop-number g l =
    (length (vec_items l.readers) ≡ l.number)
    × (into_iter_items l.feeds ≡ drop l.number l.fn.feeds.items)
    × (into_iter_items l.tails ≡ drop l.number l.fn.tails.items)
    × EachAt (IsReaderOf g.F.RecordFeed.fault_count l.fn.feeds.items l.lent.queues.now.records.items (cells_of l.lent.gens.now l.lent.asked.now)) (vec_items l.readers)
