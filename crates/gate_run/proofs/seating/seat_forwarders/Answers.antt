use Rattle.std.proofs.Common.{rules, ◌≡◌, ◌∙◌, sym, ap, refl, ◌<◌, arith, length, map, Some}
use Rattle.std.specs.Prelude.{slice_get}
use Rattle.std.proofs.lemmas.Option.{slice_get_read}
use Rattle.std.specs.Vec.Iter.{into_iter_items}
use Rattle.gate_config.specs.Lookups.{connections_of}
use Rattle.gate_run.specs.Inner.Seatings.{IsForwarderOf}
use Rattle.std.specs.List.{range_with_len}
use Rattle.gate_run_threads.specs.Seats.{fresh_tail}
use Rattle.gate_run_threads.proofs.Places.{left_is, next_is, some_left}
use Rattle.gate_run_threads.proofs.Grouped.{range_length}
use Rattle.gate_run.proofs.Seatings.{as_many_of, forwarder_of, here_mapped, one_more}
use Rattle.gate_run.proofs.seating.seat_forwarders.Goals as goal

pub bounds-sources-number : goal.bounds-sources-number
bounds-sources-number g c =
    let inside : c.loop-number.number < length (connections_of c.args.lent.now.gens.now.first) = search rules in
    omega (arith, inside, ap length c.as_slice-sources.ensures.value, c.requires.sources)

pub next_of-requires-in-loop-number : goal.next_of-requires-in-loop-number
next_of-requires-in-loop-number g c =
    let tails = c.args.tails.items in
    let count = length (connections_of c.args.lent.now.gens.now.first) in
    let all : length tails ≡ count = as_many_of (λ row. row.items) (λ s. map (fresh_tail s) c.args.lent.now.queues.now.items.items) tails (range_with_len 0 count) c.requires.tails ∙ range_length 0 count in
    let inside : c.loop-number.number < count = search rules in
    record { left = some_left tails (into_iter_items c.loop-number.tails) c.loop-number.number c.loop-number.invariant.2 (omega (arith, all, inside)) }

pub loop-number-preserved : goal.loop-number-preserved
loop-number-preserved g c =
    let (many, headed, tailed, each) = c.loop-number.invariant in
    let number = c.loop-number.number in
    let gens = c.args.lent.now.gens.now in
    let heads = c.args.heads.items in
    let tails = c.args.tails.items in
    let sources = c.args.lent.now.queues.now.records.items in
    let targets = c.args.lent.now.queues.now.items.items in
    let slice = c.as_slice-sources.result.now in
    let same : slice ≡ sources = c.as_slice-sources.ensures.value in
    let source = c.index-sources-number.result in
    let head_step = sym c.next_of.ensures.next ∙ headed in
    let tail_step = sym c.next_of-in-loop-number.ensures.next ∙ tailed in
    let inside : number < length (connections_of gens.first) = search rules in
    let low : number < length slice = omega (arith, inside, ap length same, c.requires.sources) in
    let here : slice_get sources number ≡ Some source = ap (λ xs. slice_get xs number) (sym same) ∙ slice_get_read slice (length slice) number source refl low (search rules) in
    let row_here = here_mapped (λ row. row.items) tails number c.next_of-in-loop-number.result (next_is tails number c.next_of-in-loop-number.result (into_iter_items c.next_of-in-loop-number.new.rest) tail_step) in
    let more = one_more (IsForwarderOf gens sources targets) c.loop-number.forwarders.items c.push.new.self.items _ number many each
    (forwarder_of gens sources targets heads (map (λ row. row.items) tails) (length (connections_of gens.first)) number _ refl refl here c.as_slice-targets.ensures.value
    (next_is heads number c.next_of.result (into_iter_items c.next_of.new.rest) head_step) c.requires.heads row_here c.requires.tails inside c.requires.targets) c.in_ok-push.ensures.items in
    (more.many, left_is heads number c.next_of.result (into_iter_items c.next_of.new.rest) head_step, left_is tails number c.next_of-in-loop-number.result (into_iter_items c.next_of-in-loop-number.new.rest) tail_step, more.each)
