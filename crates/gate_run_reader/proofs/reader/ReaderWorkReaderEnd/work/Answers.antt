use Rattle.std.proofs.Common.{◌∙◌, refl, ap, arith}
use Rattle.gate_report.specs.declared.report.EndCause.TheVariants as cause
use Rattle.gate_run_reader.proofs.Readings.{cut_means, means_ended, reading_begins, reading_ends}
use Rattle.gate_run_reader.proofs.reader.ReaderWorkReaderEnd.work.Goals as goal

pub loop-init : goal.loop-init
loop-init g c =
    ((tt, tt), reading_begins _ _ _ c.new.ensures.seat c.new.ensures.count c.new.ensures.generation c.new-2.ensures.items, refl, refl, ap (λ tail. tail.queue) c.new.ensures.seat)

pub returns-in-Some-look : goal.returns-in-Some-look
returns-in-Some-look g c =
    let (iterator, before, faults, note, queue) = c.loop.invariant in
    let was = c.look.ensures.continues _ _ _ before in
    reading_ends g.F.RecordFeed.to_come g.F.RecordFeed.fault_count c.args.self.feed c.loop.feed c.args.self.tail c.args.self.generations c.args.self.cells.now c.look.new.self c.in-Some-look.cause c.args.self.note c.end.result
    c.accepted_records_are_numbered.ensures (ap (λ tail. tail.put) c.requires.not_put) c.requires.some was (c.look.ensures.same.1 ∙ note)
    (cut_means c.in-Some-look.cause (g.F.RecordFeed.to_come c.args.self.feed) (g.F.RecordFeed.to_come c.loop.feed) was.lines (g.F.RecordFeed.fault_count c.args.self.feed) (g.F.RecordFeed.fault_count c.loop.feed) c.look.new.self.note c.in-Some-look.ensures.cuts)
    c.end.ensures.feed c.end.ensures.count c.end.ensures.closes c.end.ensures.renewals c.end.ensures.note

pub returns-in-Some-take_in : goal.returns-in-Some-take_in
returns-in-Some-take_in g c =
    let (iterator, before, faults, note, queue) = c.loop.invariant in
    let was = c.in-Some-take_in.ensures.continues _ _ _ (c.look.ensures.continues _ _ _ before) in
    reading_ends g.F.RecordFeed.to_come g.F.RecordFeed.fault_count c.args.self.feed c.next-in-loop.new.self c.args.self.tail c.args.self.generations c.args.self.cells.now c.take_in.new.self c.in-Some-take_in.cause c.args.self.note c.end-in-Some-take_in.result
    c.accepted_records_are_numbered.ensures (ap (λ tail. tail.put) c.requires.not_put) c.requires.some was (c.take_in.ensures.same.1 ∙ c.look.ensures.same.1 ∙ note)
    (cut_means c.in-Some-take_in.cause (g.F.RecordFeed.to_come c.args.self.feed) (g.F.RecordFeed.to_come c.next-in-loop.new.self) was.lines (g.F.RecordFeed.fault_count c.args.self.feed) (g.F.RecordFeed.fault_count c.next-in-loop.new.self) c.take_in.new.self.note c.in-Some-take_in.ensures.cuts)
    c.end-in-Some-take_in.ensures.feed c.end-in-Some-take_in.ensures.count c.end-in-Some-take_in.ensures.closes c.end-in-Some-take_in.ensures.renewals c.end-in-Some-take_in.ensures.note

pub returns-in-Ended : goal.returns-in-Ended
returns-in-Ended g c =
    let (iterator, before, faults, note, queue) = c.loop.invariant in
    let was = c.look.ensures.continues _ _ _ before in
    reading_ends g.F.RecordFeed.to_come g.F.RecordFeed.fault_count c.args.self.feed c.next-in-loop.new.self c.args.self.tail c.args.self.generations c.args.self.cells.now c.look.new.self cause.Ended c.args.self.note c.end-in-Ended.result
    c.accepted_records_are_numbered.ensures (ap (λ tail. tail.put) c.requires.not_put) c.requires.some was (c.look.ensures.same.1 ∙ note)
    (means_ended (g.F.RecordFeed.to_come c.next-in-loop.new.self) (g.F.RecordFeed.fault_count c.args.self.feed) (g.F.RecordFeed.fault_count c.next-in-loop.new.self) c.look.new.self.note was c.in-Ended.ensures.steps)
    c.end-in-Ended.ensures.feed c.end-in-Ended.ensures.count c.end-in-Ended.ensures.closes c.end-in-Ended.ensures.renewals c.end-in-Ended.ensures.note

pub returns-in-Fault : goal.returns-in-Fault
returns-in-Fault g c =
    let (iterator, before, faults, note, queue) = c.loop.invariant in
    let was = c.look.ensures.continues _ _ _ before in
    reading_ends g.F.RecordFeed.to_come g.F.RecordFeed.fault_count c.args.self.feed c.next-in-loop.new.self c.args.self.tail c.args.self.generations c.args.self.cells.now c.look.new.self cause.Failed c.args.self.note c.end-in-Fault.result
    c.accepted_records_are_numbered.ensures (ap (λ tail. tail.put) c.requires.not_put) c.requires.some was (c.look.ensures.same.1 ∙ note)
    (omega (arith, faults, c.in-Fault.ensures.faults))
    c.end-in-Fault.ensures.feed c.end-in-Fault.ensures.count c.end-in-Fault.ensures.closes c.end-in-Fault.ensures.renewals c.end-in-Fault.ensures.note

pub returns-in-Memory : goal.returns-in-Memory
returns-in-Memory g c =
    let (iterator, before, faults, note, queue) = c.loop.invariant in
    let was = c.look.ensures.continues _ _ _ before in
    reading_ends g.F.RecordFeed.to_come g.F.RecordFeed.fault_count c.args.self.feed c.next-in-loop.new.self c.args.self.tail c.args.self.generations c.args.self.cells.now c.look.new.self cause.Memory c.args.self.note c.end-in-Memory.result
    c.accepted_records_are_numbered.ensures (ap (λ tail. tail.put) c.requires.not_put) c.requires.some was (c.look.ensures.same.1 ∙ note)
    (tt)
    c.end-in-Memory.ensures.feed c.end-in-Memory.ensures.count c.end-in-Memory.ensures.closes c.end-in-Memory.ensures.renewals c.end-in-Memory.ensures.note
