use Rattle.std.proofs.Common.{rules, ◌≡◌, ◌∙◌, sym, ap, length, map}
use Rattle.std.specs.List.{range_with_len}
use Rattle.gate_run_threads.specs.Seats.{seat_in, seat_of}
use Rattle.gate_run_threads.specs.Tables.{dealt_all, empties}
use Rattle.gate_run_threads.proofs.Paired.{map_length}
use Rattle.gate_run_threads.proofs.Places.{each_alike}
use Rattle.gate_run_threads.proofs.Seated.{map_map}
use Rattle.gate_run_threads.proofs.Grouped.{as_wide, by_sender, on_ok, seats_turned, settled_as}
use Rattle.gate_run_threads.proofs.Turned.{map_same}
use Rattle.gate_run_threads.proofs.free_queues.settle_free_queues.Goals as goal

pub columns_of-requires : goal.columns_of-requires
columns_of-requires g c =
    let queues = c.args.queues.items in
    let width : length queues ≡ c.len.result = search rules in
    sym (map_same (λ row. length (map seat_of row.items)) (λ row. length row.items) (λ row. map_length seat_of row.items) c.args.tails.items)
    ∙ as_wide length (length queues) (λ row. map seat_of row.items) (λ s. map (seat_in s) queues) c.args.tails.items (range_with_len 0 (length c.args.tails.items)) c.requires.tails (λ s. map_length (seat_in s) queues)
    ∙ ap (λ n. map (λ row. n) c.args.tails.items) width

pub settle_all-requires-clause-seats : goal.settle_all-requires-clause-seats
settle_all-requires-clause-seats g c =
    let queues = c.args.queues.items in
    let rows = map (λ row. row.items) c.args.tails.items in
    let width : c.len.result ≡ length queues = search rules in
    sym (map_map (map seat_of) (λ tails. tails.items) c.in_ok-seats.seats.items)
    ∙ ap (map (map seat_of)) (c.in_ok-seats.ensures ∙ ap (λ n. dealt_all (empties n) rows) width)
    ∙ seats_turned queues (length c.args.tails.items) rows c.requires.senders (map_map (map seat_of) (λ row. row.items) c.args.tails.items ∙ c.requires.tails)

pub returns : goal.returns
returns g c =
    let queues = c.args.queues.items in
    let rows = map (λ row. row.items) c.args.tails.items in
    let width : c.len.result ≡ length queues = search rules in
    on_ok c.settle_all.result (λ settled. by_sender queues c.args.heads.items rows (length queues)
    (each_alike length (length queues) rows (map_map length (λ row. row.items) c.args.tails.items
    ∙ sym (map_same (λ row. length (map seat_of row.items)) (λ row. length row.items) (λ row. map_length seat_of row.items) c.args.tails.items)
    ∙ as_wide length (length queues) (λ row. map seat_of row.items) (λ s. map (seat_in s) queues) c.args.tails.items (range_with_len 0 (length c.args.tails.items)) c.requires.tails (λ s. map_length (seat_in s) queues)
    ∙ sym (map_map (λ row. length queues) (λ row. row.items) c.args.tails.items)))
    (settled_as queues c.args.heads.items (map (λ tails. tails.items) c.in_ok-seats.seats.items) (dealt_all (empties (length queues)) rows) (c.in_ok-seats.ensures ∙ ap (λ n. dealt_all (empties n) rows) width) settled)) c.settle_all.ensures
