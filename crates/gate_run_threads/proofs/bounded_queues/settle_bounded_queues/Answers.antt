use Rattle.std.proofs.Common.{rules, ◌≡◌, ◌∙◌, sym, ap, subst, ◌∷◌, [], length, map}
use Rattle.std.specs.Vec.Iter.{into_iter_items}
use Rattle.gate_run_threads.specs.Seats.{seat_in, seat_of}
use Rattle.gate_run_threads.specs.QueueGroups.{AreSettled}
use Rattle.gate_run_threads.proofs.Places.{tail_same}
use Rattle.gate_run_threads.proofs.Seated.{as_many}
use Rattle.gate_run_threads.proofs.Grouped.{bounded_settled, none_settled}
use Rattle.gate_run_threads.proofs.bounded_queues.settle_bounded_queues.Goals as goal

pub loop-queue-preserved : goal.loop-queue-preserved
loop-queue-preserved g c =
    let (of_senders, of_heads, of_tails, all) = c.loop-queue.invariant in
    let queue = c.in-Some.queue in
    let head = c.next_of-head.result in
    let tail = c.next_of-tail.result in
    let queues = into_iter_items c.next.new.self in
    let heads = into_iter_items c.next_of-head.new.rest in
    let tails = into_iter_items c.next_of-tail.new.rest in
    let steps : into_iter_items c.loop-queue.queue-iterator ≡ queue ∷ queues = search rules in
    let heads_step = c.next_of-head.ensures.next in
    let tails_step = c.next_of-tail.ensures.next in
    let settled = c.in_ok-settle_queue.ensures in (
      tail_same queue.name.senders 1 (map (λ q. q.name.senders) queues) (map (λ q. 1) queues) (ap (map (λ q. q.name.senders)) (sym steps) ∙ of_senders ∙ ap (map (λ q. 1)) steps),
      tail_same head.queue queue.name (map (λ h. h.queue) heads) (map (λ q. q.name) queues) (ap (map (λ h. h.queue)) (sym heads_step) ∙ of_heads ∙ ap (map (λ q. q.name)) steps),
      tail_same (seat_of tail) (seat_in 0 queue) (map seat_of tails) (map (seat_in 0) queues) (ap (map seat_of) (sym tails_step) ∙ of_tails ∙ ap (map (seat_in 0)) steps),
      (λ later. all (subst (λ qs. AreSettled qs (into_iter_items c.loop-queue.heads) (map (λ t. t ∷ []) (into_iter_items c.loop-queue.tails))) (sym steps)
          (subst (λ hs. AreSettled (queue ∷ queues) hs (map (λ t. t ∷ []) (into_iter_items c.loop-queue.tails))) (sym heads_step)
          (subst (λ ts. AreSettled (queue ∷ queues) (head ∷ heads) (map (λ t. t ∷ []) ts)) (sym tails_step)
          ((settled.from, (settled.settled, tt)), later))))),
    )

pub returns : goal.returns
returns g c =
    let (of_senders, of_heads, of_tails, all) = c.loop-queue.invariant in
    let none : length (into_iter_items c.loop-queue.queue-iterator) ≡ 0 = search rules in
    bounded_settled c.args.queues.items c.args.heads.items c.args.tails.items (as_many 0 c.args.tails.items c.args.queues.items c.requires.tails)
    (all (none_settled (into_iter_items c.loop-queue.queue-iterator) (into_iter_items c.loop-queue.heads) (into_iter_items c.loop-queue.tails) none of_heads of_tails))
