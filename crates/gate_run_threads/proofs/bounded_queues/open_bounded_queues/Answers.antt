use Rattle.std.proofs.Common.{rules, ap, [], ◌∷◌}
use Rattle.gate_run_threads.specs.Seats.{fresh_head, fresh_tail}
use Rattle.gate_run_threads.proofs.Grouped.{alike_more, made_alike, one_longer}
use Rattle.gate_run_threads.proofs.bounded_queues.open_bounded_queues.Goals as goal

pub loop-queue-preserved : goal.loop-queue-preserved
loop-queue-preserved g c =
    let (many, senders, heads, tails, places) = c.loop-queue.invariant in
    let queue = c.in_ok-queue.queue in
    let said = c.in_ok-queue.ensures in
    let queues = c.loop-queue.queues.items in
    let more = c.in_ok-push.ensures.items in
    let queues' = c.push.new.self.items in (
      one_longer queues queues' queue c.loop-queue._queue many more,
      alike_more (λ q. q.name.senders) (λ q. 1) queues queues' queues queues' queue queue senders said.only_sender more more,
      made_alike fresh_head c.loop-queue.heads.items c.push-in-loop-queue.new.self.items queues queues' c.in_ok-queue.head queue heads said.head c.in_ok-push-2.ensures.items more,
      made_alike (fresh_tail 0) c.loop-queue.tails.items c.push-in-loop-queue-2.new.self.items queues queues' c.in_ok-queue.tail queue tails said.tail c.in_ok-push-3.ensures.items more,
      alike_more (λ q. q.capacity) (λ q. c.args.places) queues queues' queues queues' queue queue places said.capacity more more,
    )

pub returns-clause-opened : goal.returns-clause-opened
returns-clause-opened g c =
    let (many, senders, heads, tails, places) = c.loop-queue.invariant in
    record {
      many = search rules;
      of_senders = senders;
      not_taken = heads;
      not_put = ap (λ row. row ∷ []) tails;
    }
