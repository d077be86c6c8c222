use Rattle.std.proofs.Common.{rules, ◌≡◌, ◌∙◌, sym, ap, subst, ◌∷◌, map}
use Rattle.std.specs.Vec.Iter.{into_iter_items}
use Rattle.gate_run_threads.specs.Seats.{seat_of}
use Rattle.gate_run_threads.specs.QueueGroups.{AreSettled, seats_in}
use Rattle.gate_run_threads.proofs.Places.{head_same, tail_same}
use Rattle.gate_run_threads.proofs.Grouped.{all_seated, settled_here}
use Rattle.gate_run_threads.proofs.free_queues.settle_all.Goals as goal

pub settle-requires-clause-tails : goal.settle-requires-clause-tails
settle-requires-clause-tails g c =
    let queue = c.in-Some.queue in
    let tails = c.next_of-tails.result in
    let steps : into_iter_items c.loop-queue.queue-iterator ≡ queue ∷ into_iter_items c.next.new.self = search rules in
    all_seated queue tails.items (head_same (map seat_of tails.items) (seats_in queue) (map (λ ts. map seat_of ts.items) (into_iter_items c.next_of-tails.new.rest)) (map seats_in (into_iter_items c.next.new.self))
    (ap (map (λ ts. map seat_of ts.items)) (sym c.next_of-tails.ensures.next) ∙ c.loop-queue.invariant.1 ∙ ap (map seats_in) steps))

pub loop-queue-preserved : goal.loop-queue-preserved
loop-queue-preserved g c =
    let (of_heads, of_seats, all) = c.loop-queue.invariant in
    let queue = c.in-Some.queue in
    let head = c.next_of-head.result in
    let tails = c.next_of-tails.result in
    let queues = into_iter_items c.next.new.self in
    let heads = into_iter_items c.next_of-head.new.rest in
    let seats = into_iter_items c.next_of-tails.new.rest in
    let steps : into_iter_items c.loop-queue.queue-iterator ≡ queue ∷ queues = search rules in
    let heads_step = c.next_of-head.ensures.next in
    let seats_step = c.next_of-tails.ensures.next in (
      tail_same head.queue queue.name (map (λ h. h.queue) heads) (map (λ q. q.name) queues) (ap (map (λ h. h.queue)) (sym heads_step) ∙ of_heads ∙ ap (map (λ q. q.name)) steps),
      tail_same (map seat_of tails.items) (seats_in queue) (map (λ ts. map seat_of ts.items) seats) (map seats_in queues) (ap (map (λ ts. map seat_of ts.items)) (sym seats_step) ∙ of_seats ∙ ap (map seats_in) steps),
      (λ later. all (subst (λ qs. AreSettled qs (into_iter_items c.loop-queue.heads) (map (λ ts. ts.items) (into_iter_items c.loop-queue.seats))) (sym steps)
          (subst (λ hs. AreSettled (queue ∷ queues) hs (map (λ ts. ts.items) (into_iter_items c.loop-queue.seats))) (sym heads_step)
          (subst (λ ts. AreSettled (queue ∷ queues) (head ∷ heads) (map (λ us. us.items) ts)) (sym seats_step)
          ((c.in-Ok.ensures.from.0, settled_here queue head tails.items c.in-Ok._waiting.items c.in-Ok.ensures.from.0 c.in-Ok.ensures.from.1 c.in-Ok.ensures.delivered), later))))),
    )
