use Rattle.std.proofs.Common.{rules, ◌≡◌, ◌∙◌, sym, ap, refl, ◌<◌, length, map, Some}
use Rattle.std.specs.Prelude.{slice_get}
use Rattle.std.proofs.lemmas.Option.{slice_get_read}
use Rattle.std.specs.Vec.Iter.{into_iter_items}
use Rattle.gate_pipeline.specs.States as pipeline
use Rattle.gate_run_posts.specs.PipelineEnds.{inbox_of}
use Rattle.gate_run.specs.Inner.Seatings.{IsWorkerOf}
use Rattle.gate_run_threads.proofs.Places.{left_is, next_is}
use Rattle.gate_run.proofs.Seatings.{here_mapped, one_more, worker_of}
use Rattle.gate_run.proofs.seating.seat_pipelines.Goals as goal

pub loop-number-preserved : goal.loop-number-preserved
loop-number-preserved g c =
    let (many, headed, boxed, each) = c.loop-number.invariant in
    let number = c.loop-number.number in
    let config = c.args.lent.now.gens.now.first in
    let heads = c.args.heads.items in
    let inbox = c.args.inbox.items in
    let sources = c.args.sources.now in
    let source = c.index-sources-number.result in
    let box_step = sym c.next_of-place.ensures.next ∙ boxed in
    let head_step = sym c.next_of.ensures.next ∙ headed in
    let low : number < length sources = search rules in
    let here : slice_get sources number ≡ Some source = slice_get_read sources (length sources) number source refl low (search rules) in
    let more = one_more (IsWorkerOf config c.args.tenant.0 sources (map inbox_of inbox)) c.loop-number.workers.items c.push-in-loop-number.new.self.items _ number many each
    (worker_of config c.args.tenant.0 sources (map inbox_of inbox) heads number _ c.first-config.ensures refl refl here
    (here_mapped inbox_of inbox number c.next_of-place.result (next_is inbox number c.next_of-place.result (into_iter_items c.next_of-place.new.rest) box_step)) (c.new.ensures ∙ ap (λ x. pipeline.first_state x c.args.tenant.0 number) c.first-config.ensures)
    (next_is heads number c.next_of.result (into_iter_items c.next_of.new.rest) head_step) c.requires.heads) c.in_ok-push-2.ensures.items in
    (more.many, left_is heads number c.next_of.result (into_iter_items c.next_of.new.rest) head_step, left_is inbox number c.next_of-place.result (into_iter_items c.next_of-place.new.rest) box_step, more.each)
