use Rattle.std.proofs.Common.{◌∙◌, sym, ap, subst, length, map}
use Rattle.gate_run_posts.specs.Asked.{KnowsStill}
use Rattle.gate_pipeline.specs.States.{report_of}
use Rattle.gate_run.specs.Inner.Gatherings.{inbox_back, most_asked}
use Rattle.gate_run.specs.Inner.Queues.{AreOpen}
use Rattle.gate_run_posts.specs.PipelineEnds.{inbox_of}
use Rattle.gate_run_threads.proofs.Paired.{map_length}
use Rattle.gate_run.proofs.Promised.{serves}
use Rattle.gate_run_threads.proofs.Seated.{map_map}
use Rattle.gate_run_threads.proofs.Turned.{map_same}
use Rattle.gate_run.proofs.Whole.{are_notes, are_seats, evidence}
use Rattle.gate_run.proofs.serving.serve_over.Goals as goal

pub run_between-requires-clause-inbox : goal.run_between-requires-clause-inbox
run_between-requires-clause-inbox g c κs within =
    let rows = c.into_parts-tenants.result.0.items in
    map_same (λ row. length row.items) (λ row. length (map inbox_of row.items)) (λ row. sym (map_length inbox_of row.items)) rows
    ∙ sym (map_map length (λ row. map inbox_of row.items) rows)
    ∙ ap (map length) c.into_parts-tenants.ensures.pipelines
    ∙ c.requires.inbox

pub finish-requires-clause-notes : goal.finish-requires-clause-notes
finish-requires-clause-notes g c = are_notes g.row.G.Denot c.args.gens.now g.F.RecordFeed.to_come g.F.RecordFeed.fault_count c.args.feeds.items (map (λ row. map inbox_of row.items) c.into_parts-tenants.result.0.items) c.into_parts-tenants.result.1 c.in_ok-queues.queues c.in_ok-queues.seats.0 c.in_ok-queues.seats.1 c.in_ok-ends.ends (subst (λ config. AreOpen config c.in_ok-queues.queues c.in_ok-queues.seats.0 c.in_ok-queues.seats.1) c.first.ensures c.in_ok-queues.ensures.open) c.in_ok-ends.ensures

pub finish-requires-clause-seats : goal.finish-requires-clause-seats
finish-requires-clause-seats g c = are_seats g.row.G.Denot c.args.gens.now g.F.RecordFeed.to_come g.F.RecordFeed.fault_count c.args.feeds.items (map (λ row. map inbox_of row.items) c.into_parts-tenants.result.0.items) c.into_parts-tenants.result.1 c.in_ok-queues.queues c.in_ok-queues.seats.0 c.in_ok-queues.seats.1 c.in_ok-ends.ends (subst (λ config. AreOpen config c.in_ok-queues.queues c.in_ok-queues.seats.0 c.in_ok-queues.seats.1) c.first.ensures c.in_ok-queues.ensures.open) c.in_ok-ends.ensures

pub returns : goal.returns
returns g c =
    let served = c.in_ok-served.served in
    let known_now = c.in_ok-served.ensures.served in
    let lists = c.in_ok-ends.ends.workers.items in
    serves (evidence g.row.G.Denot c.args.gens.now g.F.RecordFeed.to_come g.F.RecordFeed.fault_count c.args.feeds.items (map (λ row. map inbox_of row.items) c.into_parts-tenants.result.0.items) c.into_parts-tenants.result.1 c.in_ok-queues.queues c.in_ok-queues.seats.0 c.in_ok-queues.seats.1 c.in_ok-ends.ends (subst (λ config. AreOpen config c.in_ok-queues.queues c.in_ok-queues.seats.0 c.in_ok-queues.seats.1) c.first.ensures c.in_ok-queues.ensures.open) c.in_ok-ends.ensures c.requires.feeds c.in_ok-served.ensures.settled)
    c.entries_have_generations.ensures c.records_have_generations.ensures c.what_was_taken_is_processed.ensures c.each_way_delivers.ensures served.feeds.items c.args.inbox served.inbox served.report (map (λ row. row.items) served.pipelines.items)
    (sym c.into_parts-tenants.ensures.pipelines)
    known_now.feeds known_now.connections
    (known_now.reports ∙ sym (map_map (map (λ end. report_of end.state)) (λ list. list.items) lists))
    (known_now.pipelines ∙ sym (map_map (map (λ end. end.state)) (λ list. list.items) lists))
    (known_now.inbox ∙ sym (map_map (map inbox_back) (λ list. list.items) lists))
    (known_now.cell ∙ ap (λ note. note.cell) c.into_parts-tenants.ensures.note)
    known_now.knows
    (known_now.cells ∙ c.into_parts-tenants.ensures.cells)
    (known_now.asked ∙ ap (λ asked. most_asked asked c.in_ok-ends.ends.readers.items) c.into_parts-tenants.ensures.asked)
    known_now.known
    (subst (λ note. KnowsStill note served.inbox.note) c.into_parts-tenants.ensures.note known_now.still)

pub run_between-requires-clause-seats : goal.run_between-requires-clause-seats
run_between-requires-clause-seats g c κs within = subst (λ config. AreOpen config c.in_ok-queues.queues c.in_ok-queues.seats.0 c.in_ok-queues.seats.1) c.first.ensures c.in_ok-queues.ensures.open
