use Rattle.std.proofs.Common.{rules, ◌≡◌, ◌∙◌, sym, ap, refl, ◌<◌, arith, length, map, Some}
use Rattle.std.specs.Prelude.{slice_get}
use Rattle.std.specs.List.{range_with_len}
use Rattle.std.proofs.lemmas.Option.{slice_get_read}
use Rattle.std.specs.Vec.Iter.{into_iter_items}
use Rattle.gate_config.specs.Lookups.{pipelines_of, tenants_of}
use Rattle.gate_run.specs.Inner.Seatings.{IsTenantWorkerOf}
use Rattle.gate_run_threads.specs.Seats.{fresh_tail}
use Rattle.gate_run_threads.proofs.Places.{left_is, next_is, some_left}
use Rattle.gate_run_threads.proofs.Seated.{map_map}
use Rattle.gate_run.proofs.Seatings.{as_many_of, count_here, tenant_worker_of, here_mapped, one_more}
use Rattle.gate_run_threads.proofs.Grouped.{range_length}
use Rattle.gate_run.proofs.seating.seat_tenant_workers.Goals as goal

pub bounds-sources-number : goal.bounds-sources-number
bounds-sources-number g c =
    let inside : c.loop-number.number < length (tenants_of c.args.lent.now.gens.now.first) = search rules in
    omega (arith, inside, ap length c.as_slice-sources.ensures.value, c.requires.sources)

pub bounds-targets-number : goal.bounds-targets-number
bounds-targets-number g c =
    let first = c.args.lent.now.gens.now.first in
    let tenants = length (tenants_of first) in
    let inside : c.loop-number.number < tenants = search rules in
    let counts = as_many_of (λ queues. length queues.items) (λ t. length (pipelines_of first t)) c.args.lent.now.queues.now.triggers.items (range_with_len 0 tenants) c.requires.targets in
    omega (arith, inside, ap length c.as_slice-targets.ensures.value, counts, range_length 0 tenants)

pub next_of-requires-in-loop-number : goal.next_of-requires-in-loop-number
next_of-requires-in-loop-number g c =
    let tails = c.args.tails.items in
    let first = c.args.lent.now.gens.now.first in
    let triggers = c.args.lent.now.queues.now.triggers.items in
    let tenants = length (tenants_of first) in
    let inside : c.loop-number.number < tenants = search rules in
    let many = as_many_of (λ queues. length queues.items) (λ t. length (pipelines_of first t)) triggers (range_with_len 0 tenants) c.requires.targets in
    let all = as_many_of (λ row. row.items) (λ queues. map (fresh_tail 0) queues.items) tails triggers c.requires.tails in
    record { left = some_left tails (into_iter_items c.loop-number.tails) c.loop-number.number c.loop-number.invariant.2 (omega (arith, all, many, inside, range_length 0 tenants)) }

pub loop-number-preserved : goal.loop-number-preserved
loop-number-preserved g c =
    let (many, headed, tailed, each) = c.loop-number.invariant in
    let number = c.loop-number.number in
    let gens = c.args.lent.now.gens.now in
    let heads = c.args.heads.items in
    let tails = c.args.tails.items in
    let sources = c.args.lent.now.queues.now.items.items in
    let targets = c.args.lent.now.queues.now.triggers.items in
    let source_slice = c.as_slice-sources.result.now in
    let target_slice = c.as_slice-targets.result.now in
    let same : source_slice ≡ sources = c.as_slice-sources.ensures.value in
    let same' : target_slice ≡ targets = c.as_slice-targets.ensures.value in
    let source = c.index-sources-number.result in
    let target = c.index-targets-number.result in
    let head_step = sym c.next_of.ensures.next ∙ headed in
    let tail_step = sym c.next_of-in-loop-number.ensures.next ∙ tailed in
    let tenants = length (tenants_of gens.first) in
    let inside : number < tenants = search rules in
    let low : number < length source_slice = omega (arith, inside, ap length same, c.requires.sources) in
    let counts = as_many_of (λ queues. length queues.items) (λ t. length (pipelines_of gens.first t)) targets (range_with_len 0 tenants) c.requires.targets in
    let low' : number < length target_slice = omega (arith, inside, ap length same', counts, range_length 0 tenants) in
    let here : slice_get sources number ≡ Some source = ap (λ xs. slice_get xs number) (sym same) ∙ slice_get_read source_slice (length source_slice) number source refl low (search rules) in
    let here' : slice_get targets number ≡ Some target = ap (λ xs. slice_get xs number) (sym same') ∙ slice_get_read target_slice (length target_slice) number target refl low' (search rules) in
    let slice = c.as_slice.ensures.value in
    let row_here = here_mapped (λ row. row.items) tails number c.next_of-in-loop-number.result (next_is tails number c.next_of-in-loop-number.result (into_iter_items c.next_of-in-loop-number.new.rest) tail_step) in
    let more = one_more (IsTenantWorkerOf gens sources (map (λ queues. queues.items) targets)) c.loop-number.tenant_workers.items c.push.new.self.items _ number many each
    (tenant_worker_of gens sources (map (λ queues. queues.items) targets) heads (map (λ row. row.items) tails) number _ refl refl here
    (here_mapped (λ queues. queues.items) targets number target here' ∙ ap Some (sym slice)) (ap length slice ∙ count_here (λ queues. length queues.items) (λ t. length (pipelines_of gens.first t)) targets tenants number target c.requires.targets here')
    (next_is heads number c.next_of.result (into_iter_items c.next_of.new.rest) head_step) c.requires.heads row_here (c.requires.tails ∙ sym (map_map (map (fresh_tail 0)) (λ queues. queues.items) targets))) c.in_ok-push.ensures.items in
    (more.many, left_is heads number c.next_of.result (into_iter_items c.next_of.new.rest) head_step, left_is tails number c.next_of-in-loop-number.result (into_iter_items c.next_of-in-loop-number.new.rest) tail_step, more.each)
