use Rattle.std.proofs.Common.{rules, ◌≡◌, ◌∙◌, sym, ap, refl, ◌<◌, arith, ◌∷◌, [], length, map, Some}
use Rattle.std.specs.Prelude.{slice_get}
use Rattle.std.specs.List.{range_with_len}
use Rattle.std.proofs.lemmas.List.{map-append}
use Rattle.std.proofs.lemmas.Option.{slice_get_read}
use Rattle.std.specs.Vec.Iter.{into_iter_items}
use Rattle.gate_config.specs.Lookups.{pipelines_of, tenants_of}
use Rattle.gate_run_posts.specs.PipelineEnds.{inbox_of}
use Rattle.gate_run.specs.Inner.Seatings.{AreWorkersOf}
use Rattle.gate_run_threads.specs.Seats.{fresh_head}
use Rattle.gate_run_threads.proofs.Paired.{map_length}
use Rattle.gate_run_threads.proofs.Places.{left_is, next_is, some_left}
use Rattle.gate_run.proofs.Seatings.{as_many_of, count_here, here_mapped, is_mapped, one_more}
use Rattle.gate_run_threads.proofs.Grouped.{range_length}
use Rattle.gate_run.proofs.seating.seat_workers.Goals as goal

pub bounds-sources-number : goal.bounds-sources-number
bounds-sources-number g c =
    let first = c.args.lent.now.gens.now.first in
    let tenants = length (tenants_of first) in
    let inside : c.loop-number.number < tenants = search rules in
    let many = as_many_of (λ queues. length queues.items) (λ t. length (pipelines_of first t)) c.args.lent.now.queues.now.triggers.items (range_with_len 0 tenants) c.requires.sources in
    omega (arith, inside, ap length c.as_slice-sources.ensures.value, many, range_length 0 tenants)

pub next_of-own_heads-requires : goal.next_of-own_heads-requires
next_of-own_heads-requires g c =
    let heads = c.args.heads.items in
    let first = c.args.lent.now.gens.now.first in
    let triggers = c.args.lent.now.queues.now.triggers.items in
    let tenants = length (tenants_of first) in
    let inside : c.loop-number.number < tenants = search rules in
    let many = as_many_of (λ queues. length queues.items) (λ t. length (pipelines_of first t)) triggers (range_with_len 0 tenants) c.requires.sources in
    let all = as_many_of (λ row. row.items) (λ queues. map fresh_head queues.items) heads triggers c.requires.heads in
    record { left = some_left heads (into_iter_items c.loop-number.heads) c.loop-number.number c.loop-number.invariant.1 (omega (arith, all, many, inside, range_length 0 tenants)) }

pub next_of-own_inbox-requires : goal.next_of-own_inbox-requires
next_of-own_inbox-requires g c =
    let inbox = c.args.inbox.items in
    let first = c.args.lent.now.gens.now.first in
    let tenants = length (tenants_of first) in
    let inside : c.loop-number.number < tenants = search rules in
    let many = as_many_of (λ row. length row.items) (λ t. length (pipelines_of first t)) inbox (range_with_len 0 tenants) c.requires.inbox in
    record { left = some_left inbox (into_iter_items c.loop-number.inbox) c.loop-number.number c.loop-number.invariant.2 (omega (arith, many, inside, range_length 0 tenants)) }

pub seat_pipelines-requires-clause-sources : goal.seat_pipelines-requires-clause-sources
seat_pipelines-requires-clause-sources g c =
    let first = c.args.lent.now.gens.now.first in
    let sources = c.args.lent.now.queues.now.triggers.items in
    let slice = c.as_slice-sources.result.now in
    let same : slice ≡ sources = c.as_slice-sources.ensures.value in
    let tenants = length (tenants_of first) in
    let number = c.loop-number.number in
    let group = c.index-sources-number.result in
    let inside : number < tenants = search rules in
    let many = as_many_of (λ queues. length queues.items) (λ t. length (pipelines_of first t)) sources (range_with_len 0 tenants) c.requires.sources in
    let low : number < length slice = omega (arith, inside, ap length same, many, range_length 0 tenants) in
    let here : slice_get sources number ≡ Some group = ap (λ xs. slice_get xs number) (sym same) ∙ slice_get_read slice (length slice) number group refl low (search rules) in
    ap length c.as_slice-own_sources.ensures.value ∙ count_here (λ queues. length queues.items) (λ t. length (pipelines_of first t)) sources tenants number group c.requires.sources here

pub seat_pipelines-requires-clause-heads : goal.seat_pipelines-requires-clause-heads
seat_pipelines-requires-clause-heads g c =
    let first = c.args.lent.now.gens.now.first in
    let sources = c.args.lent.now.queues.now.triggers.items in
    let slice = c.as_slice-sources.result.now in
    let same : slice ≡ sources = c.as_slice-sources.ensures.value in
    let heads = c.args.heads.items in
    let tenants = length (tenants_of first) in
    let number = c.loop-number.number in
    let group = c.index-sources-number.result in
    let inside : number < tenants = search rules in
    let many = as_many_of (λ queues. length queues.items) (λ t. length (pipelines_of first t)) sources (range_with_len 0 tenants) c.requires.sources in
    let low : number < length slice = omega (arith, inside, ap length same, many, range_length 0 tenants) in
    let here : slice_get sources number ≡ Some group = ap (λ xs. slice_get xs number) (sym same) ∙ slice_get_read slice (length slice) number group refl low (search rules) in
    let step = sym c.next_of-own_heads.ensures.next ∙ c.loop-number.invariant.1 in
    let own = next_is heads number c.next_of-own_heads.result (into_iter_items c.next_of-own_heads.new.rest) step in
    is_mapped (λ queues. map fresh_head queues.items) sources (map (λ row. row.items) heads) number group c.next_of-own_heads.result.items c.requires.heads here (here_mapped (λ row. row.items) heads number c.next_of-own_heads.result own)
    ∙ ap (map fresh_head) (sym c.as_slice-own_sources.ensures.value)

pub seat_pipelines-requires-clause-inbox : goal.seat_pipelines-requires-clause-inbox
seat_pipelines-requires-clause-inbox g c =
    let inbox = c.args.inbox.items in
    let number = c.loop-number.number in
    let first = c.args.lent.now.gens.now.first in
    let step = sym c.next_of-own_inbox.ensures.next ∙ c.loop-number.invariant.2 in
    count_here (λ row. length row.items) (λ t. length (pipelines_of first t)) inbox (length (tenants_of first)) number c.next_of-own_inbox.result c.requires.inbox (next_is inbox number c.next_of-own_inbox.result (into_iter_items c.next_of-own_inbox.new.rest) step)

pub loop-number-preserved : goal.loop-number-preserved
loop-number-preserved g c =
    let (many, headed, boxed, each) = c.loop-number.invariant in
    let first = c.args.lent.now.gens.now.first in
    let sources = c.args.lent.now.queues.now.triggers.items in
    let slice = c.as_slice-sources.result.now in
    let same : slice ≡ sources = c.as_slice-sources.ensures.value in
    let heads = c.args.heads.items in
    let inbox = c.args.inbox.items in
    let tenants = length (tenants_of first) in
    let number = c.loop-number.number in
    let group = c.index-sources-number.result in
    let inside : number < tenants = search rules in
    let as_many = as_many_of (λ queues. length queues.items) (λ t. length (pipelines_of first t)) sources (range_with_len 0 tenants) c.requires.sources in
    let low : number < length slice = omega (arith, inside, ap length same, as_many, range_length 0 tenants) in
    let here : slice_get sources number ≡ Some group = ap (λ xs. slice_get xs number) (sym same) ∙ slice_get_read slice (length slice) number group refl low (search rules) in
    let head_step = sym c.next_of-own_heads.ensures.next ∙ headed in
    let box_step = sym c.next_of-own_inbox.ensures.next ∙ boxed in
    let workers = c.loop-number.workers.items in
    let pushed = c.in_ok-push.ensures.items in
    let more = one_more (AreWorkersOf first (map (λ queues. queues.items) sources) (map (λ row. map inbox_of row.items) inbox)) (map (λ row. row.items) workers) (map (λ row. row.items) c.push.new.self.items) c.in_ok-own.own.items number
    (map_length (λ row. row.items) workers ∙ many) each
    (record {
      own_sources = c.as_slice-own_sources.result.now;
      own_inbox = map inbox_of c.next_of-own_inbox.result.items;
      sources_here = here_mapped (λ queues. queues.items) sources number group here ∙ ap Some (sym c.as_slice-own_sources.ensures.value);
      inbox_here = here_mapped (λ row. map inbox_of row.items) inbox number c.next_of-own_inbox.result (next_is inbox number c.next_of-own_inbox.result (into_iter_items c.next_of-own_inbox.new.rest) box_step);
      count = c.in_ok-own.ensures.count;
      each = c.in_ok-own.ensures.workers;
    })
    (ap (map (λ row. row.items)) pushed ∙ map-append (λ row. row.items) workers (c.in_ok-own.own ∷ [])) in
    (sym (map_length (λ row. row.items) c.push.new.self.items) ∙ more.many, left_is heads number c.next_of-own_heads.result (into_iter_items c.next_of-own_heads.new.rest) head_step, left_is inbox number c.next_of-own_inbox.result (into_iter_items c.next_of-own_inbox.new.rest) box_step, more.each)
