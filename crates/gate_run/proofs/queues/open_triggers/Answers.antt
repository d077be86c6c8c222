use Rattle.std.proofs.Common.{◌∙◌, ap, [], length, map}
use Rattle.gate_config.specs.Lookups.{pipelines_of}
use Rattle.gate_run_threads.specs.Seats.{fresh_head, fresh_tail}
use Rattle.gate_run_threads.proofs.Paired.{made_more}
use Rattle.gate_run_threads.proofs.Places.{head_same}
use Rattle.gate_run_threads.proofs.Grouped.{alike_more}
use Rattle.gate_run.proofs.queues.open_triggers.Goals as goal

pub loop-number-preserved : goal.loop-number-preserved
loop-number-preserved c =
    let (counts, senders, heads, tails) = c.loop-number.invariant in
    let opened = c.in_ok-group.ensures in
    let group = c.in_ok-group.group in
    let queues = c.loop-number.queues.items in
    let queues' = c.push.new.self.items in
    let more = c.in_ok-push.ensures.items in (
      made_more (λ q. length q.items) (λ t. length (pipelines_of c.args.config.now t)) queues queues' group c.loop-number.number counts (opened.many ∙ ap length c.pipelines-count.ensures) more,
      alike_more (λ q. map (λ x. x.name.senders) q.items) (λ q. map (λ x. 1) q.items) queues queues' queues queues' group group senders opened.of_senders more more,
      alike_more (λ row. row.items) (λ q. map fresh_head q.items) c.loop-number.heads.items c.push-in-loop-number.new.self.items queues queues' c.in_ok-group.own_heads group heads opened.not_taken c.in_ok-push-2.ensures.items more,
      alike_more (λ row. row.items) (λ q. map (fresh_tail 0) q.items) c.loop-number.tails.items c.push-in-loop-number-2.new.self.items queues queues' c.in_ok-group.own_tails group tails
          (head_same c.in_ok-group.own_tails.items (map (fresh_tail 0) group.items) [] [] opened.not_put) c.in_ok-push-3.ensures.items more,
    )
