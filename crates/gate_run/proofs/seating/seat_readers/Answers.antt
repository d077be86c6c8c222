use Rattle.std.proofs.Common.{rules, ◌≡◌, ◌∙◌, sym, ap, refl, ◌<◌, arith, length, Some}
use Rattle.std.specs.Prelude.{slice_get}
use Rattle.std.proofs.lemmas.Option.{slice_get_read}
use Rattle.std.specs.Vec.Iter.{into_iter_items}
use Rattle.gate_config.specs.Lookups.{connections_of}
use Rattle.gate_run.specs.Inner.Seatings.{Cells, IsReaderOf, cells_of}
use Rattle.gate_run_threads.proofs.Places.{left_is, next_is}
use Rattle.gate_run.proofs.Seatings.{one_more, reader_of}
use Rattle.gate_run.proofs.seating.seat_readers.Goals as goal

pub bounds-queues-number : goal.bounds-queues-number
bounds-queues-number g c =
    let inside : c.loop-number.number < length (connections_of c.args.lent.now.gens.now.first) = search rules in
    omega (arith, inside, ap length c.as_slice-queues.ensures.value, c.requires.queues)

pub loop-number-preserved : goal.loop-number-preserved
loop-number-preserved g c =
    let (many, fed, seated, each) = c.loop-number.invariant in
    let number = c.loop-number.number in
    let gens = c.args.lent.now.gens.now in
    let cells : Cells = cells_of gens c.args.lent.now.asked.now in
    let feeds = c.args.feeds.items in
    let tails = c.args.tails.items in
    let queues = c.args.lent.now.queues.now.records.items in
    let slice = c.as_slice-queues.result.now in
    let same : slice ≡ queues = c.as_slice-queues.ensures.value in
    let queue = c.index-queues-number.result in
    let feed_step = sym c.next_of.ensures.next ∙ fed in
    let tail_step = sym c.next_of-in-loop-number.ensures.next ∙ seated in
    let inside : number < length (connections_of gens.first) = search rules in
    let low : number < length slice = omega (arith, inside, ap length same, c.requires.queues) in
    let here : slice_get queues number ≡ Some queue = ap (λ xs. slice_get xs number) (sym same) ∙ slice_get_read slice (length slice) number queue refl low (search rules) in
    let more = one_more (IsReaderOf g.F.RecordFeed.fault_count feeds queues cells) c.loop-number.readers.items c.push.new.self.items _ number many each
    (reader_of g.F.RecordFeed.fault_count feeds queues tails cells number _ (next_is feeds number c.next_of.result (into_iter_items c.next_of.new.rest) feed_step) here (next_is tails number c.next_of-in-loop-number.result (into_iter_items c.next_of-in-loop-number.new.rest) tail_step)
    c.requires.tails c.requires.few c.stop_cell-stop.ensures c.count-generations.ensures c.cells-later.ensures (omega arith) (c.note.ensures.0 ∙ c.stop_cell-stop.ensures)) c.in_ok-push.ensures.items in
    (more.many, left_is feeds number c.next_of.result (into_iter_items c.next_of.new.rest) feed_step, left_is tails number c.next_of-in-loop-number.result (into_iter_items c.next_of-in-loop-number.new.rest) tail_step, more.each)
