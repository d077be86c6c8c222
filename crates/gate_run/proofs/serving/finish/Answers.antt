use Rattle.std.proofs.Common.{rules, ◌≡◌, ◌∙◌, sym, ap, subst, length, map}
use Rattle.std.specs.List.{range_with_len}
use Rattle.gate_source.specs.Stops.{Note}
use Rattle.gate_run_posts.specs.Asked.{knows_as_much}
use Rattle.gate_run_threads.specs.Lists.{Each}
use Rattle.gate_run_threads.specs.Seats.{seat_in, seat_of}
use Rattle.gate_run_threads.proofs.Seated.{map_map}
use Rattle.gate_run.proofs.Seatings.{as_many_of}
use Rattle.gate_run_threads.proofs.Turned.{map_same}
use Rattle.gate_run.proofs.serving.finish.Goals as goal

pub settle_bounded_queues-requires-clause-heads : goal.settle_bounded_queues-requires-clause-heads
settle_bounded_queues-requires-clause-heads g c =
    ap (map (λ head. head.queue)) c.in_ok-record_heads.ensures.heads ∙ map_map (λ head. head.queue) (λ end. end.head) c.args.ends.forwarders.items ∙ c.requires.seats.record_heads

pub settle_bounded_queues-requires-clause-tails : goal.settle_bounded_queues-requires-clause-tails
settle_bounded_queues-requires-clause-tails g c =
    ap (map seat_of) c.in_ok-feeds.ensures.tails ∙ map_map seat_of (λ end. end.tail) c.args.ends.readers.items ∙ c.requires.seats.record_tails

pub settle_free_queues-requires-clause-senders : goal.settle_free_queues-requires-clause-senders
settle_free_queues-requires-clause-senders g c =
    let forwarders = c.args.ends.forwarders.items in
    let tails = c.in_ok-record_heads.item_tails.items in
    let many : length forwarders ≡ length tails = sym (as_many_of (λ row. row.items) (λ end. end.tails.items) tails forwarders c.in_ok-record_heads.ensures.tails) in
    c.requires.seats.item_senders ∙ ap (λ n. map (λ queue. n) c.args.queues.items.items) many

pub settle_free_queues-requires-clause-heads : goal.settle_free_queues-requires-clause-heads
settle_free_queues-requires-clause-heads g c =
    ap (map (λ head. head.queue)) c.in_ok-item_heads.ensures.heads ∙ map_map (λ head. head.queue) (λ end. end.head) c.args.ends.tenant_workers.items ∙ c.requires.seats.item_heads

pub settle_free_queues-requires-clause-tails : goal.settle_free_queues-requires-clause-tails
settle_free_queues-requires-clause-tails g c =
    let forwarders = c.args.ends.forwarders.items in
    let tails = c.in_ok-record_heads.item_tails.items in
    let many : length forwarders ≡ length tails = sym (as_many_of (λ row. row.items) (λ end. end.tails.items) tails forwarders c.in_ok-record_heads.ensures.tails) in
    sym (map_map (map seat_of) (λ row. row.items) tails)
    ∙ ap (map (map seat_of)) c.in_ok-record_heads.ensures.tails
    ∙ map_map (map seat_of) (λ end. end.tails.items) forwarders
    ∙ c.requires.seats.item_tails
    ∙ ap (λ n. map (λ s. map (seat_in s) c.args.queues.items.items) (range_with_len 0 n)) many

pub settle_groups-requires-clause-heads : goal.settle_groups-requires-clause-heads
settle_groups-requires-clause-heads g c =
    let lists = c.args.ends.workers.items in
    sym (map_map (map (λ head. head.queue)) (λ row. row.items) c.in_ok-pipelines.field-0.seats.items)
    ∙ ap (map (map (λ head. head.queue))) c.in_ok-pipelines.ensures.heads
    ∙ map_map (map (λ head. head.queue)) (λ list. map (λ end. end.head) list.items) lists
    ∙ map_same (λ list. map (λ head. head.queue) (map (λ end. end.head) list.items)) (λ list. map (λ end. end.head.queue) list.items) (λ list. map_map (λ head. head.queue) (λ end. end.head) list.items) lists
    ∙ c.requires.seats.trigger_heads

pub settle_groups-requires-clause-tails : goal.settle_groups-requires-clause-tails
settle_groups-requires-clause-tails g c =
    sym (map_map (map seat_of) (λ row. row.items) c.in_ok-item_heads.trigger_tails.items)
    ∙ ap (map (map seat_of)) c.in_ok-item_heads.ensures.tails
    ∙ map_map (map seat_of) (λ end. end.tails.items) c.args.ends.tenant_workers.items
    ∙ c.requires.seats.trigger_tails

pub returns-clause-served : goal.returns-clause-served
returns-clause-served g c = record {
  feeds = search rules;
  connections = search rules;
  reports = search rules;
  pipelines = search rules;
  inbox = search rules;
  cell = search rules;
  knows = subst (λ (note : Note). Each (λ end. knows_as_much end.note note) c.args.ends.readers.items) (sym c.from_parts.ensures.note) c.in_ok-feeds.ensures.knows;
  still = search rules;
  cells = search rules;
  asked = search rules;
  known = search rules;
}

pub returns-clause-settled : goal.returns-clause-settled
returns-clause-settled g c = record {
  records = search rules;
  items = search rules;
  triggers = search rules;
}
