use Rattle.std.proofs.Common.{rules, ◌∙◌, ap, arith, length, map}
use Rattle.std.specs.List.{range_with_len}
use Rattle.gate_run_threads.specs.Seats.{fresh_head, fresh_tail}
use Rattle.gate_run_threads.specs.Tables.{dealt_all, empties}
use Rattle.gate_run_threads.proofs.Paired.{map_length}
use Rattle.gate_run_threads.proofs.Grouped.{alike_more, as_wide, fresh_row, made_alike, one_longer, range_length}
use Rattle.gate_run_threads.proofs.Turned.{table_turned}
use Rattle.gate_run_threads.proofs.free_queues.open_free_queues.Goals as goal

pub loop-queue-preserved : goal.loop-queue-preserved
loop-queue-preserved g c =
    let (many, senders, heads, rows) = c.loop-queue.invariant in
    let n = c.args.senders in
    let queue = c.in_ok-queue.queue in
    let tails = c.in_ok-queue.tails in
    let head = c.in_ok-queue.head in
    let said = c.in_ok-queue.ensures in
    let queues = c.loop-queue.queues.items in
    let more = c.in_ok-push.ensures.items in
    let queues' = c.push.new.self.items in (
      one_longer queues queues' queue c.loop-queue._queue many more,
      alike_more (λ q. q.name.senders) (λ q. n) queues queues' queues queues' queue queue senders said.queue more more,
      made_alike fresh_head c.loop-queue.heads.items c.push-in-loop-queue.new.self.items queues queues' head queue heads (λ i. record { queue = said.head.0 i; taken = said.head.1 i }) c.in_ok-push-2.ensures.items more,
      alike_more (λ row. row.items) (λ q. map (λ s. fresh_tail s q) (range_with_len 0 n)) c.loop-queue.rows.items c.push-in-loop-queue-2.new.self.items queues queues' tails queue rows
          (fresh_row queue n 0 tails.items (said.tails.0 ∙ said.queue) (λ k d low. let (of, number) = said.tails.1 k d low in (of, number ∙ omega arith)) said.nothing_put) c.in_ok-push-3.ensures.items more,
    )

pub columns_of-requires : goal.columns_of-requires
columns_of-requires g c =
    let (many, senders, heads, rows) = c.loop-queue.invariant in
    let n = c.args.senders in
    as_wide length n (λ row. row.items) (λ q. map (λ s. fresh_tail s q) (range_with_len 0 n)) c.loop-queue.rows.items c.loop-queue.queues.items rows (λ q. map_length (λ s. fresh_tail s q) (range_with_len 0 n) ∙ range_length 0 n)

pub returns : goal.returns
returns g c =
    let (many, senders, heads, rows) = c.loop-queue.invariant in
    let n = c.args.senders in
    record {
      many = search rules;
      of_senders = senders;
      not_taken = heads;
      not_put = c.in_ok-tails.ensures ∙ ap (dealt_all (empties n)) rows ∙ table_turned (λ q s. fresh_tail s q) c.loop-queue.queues.items (range_with_len 0 n) n (range_length 0 n);
    }
