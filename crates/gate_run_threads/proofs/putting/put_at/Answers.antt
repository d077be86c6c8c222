use Rattle.std.proofs.Common.{rules, ◌<◌, length}
use Rattle.gate_run_threads.specs.Seats.{seat_of}
use Rattle.gate_run_threads.proofs.Paired.{same_at, set_alike, set_itself}
use Rattle.gate_run_threads.proofs.putting.put_at.Goals as goal

pub put-requires : goal.put-requires
put-requires g c =
    let low : c.args.number < length c.args.tails.now.items = search rules in
    let low' : c.args.number < length c.args.queues.now = search rules in
    let there = same_at (λ tail. tail.queue) (λ queue. queue.name) c.args.tails.now.items c.args.queues.now c.requires.seats c.args.number c.index_mut.result.now c.index-queues-place.result low low' in
    search (rules, there)

pub returns-in-Ok-clause-seats : goal.returns-in-Ok-clause-seats
returns-in-Ok-clause-seats g c =
    let low : c.args.number < length c.args.tails.now.items = search rules in
    set_alike seat_of c.args.tails.now.items c.args.number c.put.new.tail c.index_mut.result.now low (search rules)

pub returns-in-Err-clause-refused : goal.returns-in-Err-clause-refused
returns-in-Err-clause-refused g c =
    let low : c.args.number < length c.args.tails.now.items = search rules in
    (c.in-Err.ensures.memory.0, set_itself c.args.tails.now.items c.args.number c.put.new.tail c.index_mut.result.now low (search rules))
