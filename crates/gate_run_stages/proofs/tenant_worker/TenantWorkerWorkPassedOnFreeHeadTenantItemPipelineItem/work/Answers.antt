use Rattle.std.proofs.Common.{◌∙◌, refl, ap}
use Rattle.gate_run_stages.proofs.TenantWorkers.{gives_nothing, has_dispatched, not_dispatched}
use Rattle.gate_run_threads.proofs.Seated.{as_many, fresh_put, fresh_seats, only_queues}
use Rattle.gate_run_stages.proofs.tenant_worker.TenantWorkerWorkPassedOnFreeHeadTenantItemPipelineItem.work.Goals as goal

pub returns-in_default : goal.returns-in_default
returns-in_default g c = not_dispatched c.args.self.gens.now c.args.self.tenant.0 c.args.self.source.now c.args.self.targets.now c.args.self.head c.args.self.tails.items c.requires.not_taken c.requires.not_put

pub returns-in_default-new : goal.returns-in_default-new
returns-in_default-new g c = not_dispatched c.args.self.gens.now c.args.self.tenant.0 c.args.self.source.now c.args.self.targets.now c.args.self.head c.args.self.tails.items c.requires.not_taken c.requires.not_put

pub run-stage-requires-clause-begins : goal.run-stage-requires-clause-begins
run-stage-requires-clause-begins g c =
    let made = c.in-Ok-new.ensures in
    (gives_nothing c.in-Ok-new.dispatch c.args.self.head c.args.self.source.now made.gens made.tenant made.state c.requires.not_taken, refl)

pub run-stage-requires-clause-not_put : goal.run-stage-requires-clause-not_put
run-stage-requires-clause-not_put g c = fresh_put 0 c.args.self.tails.items c.args.self.targets.now c.requires.not_put

pub run-stage-requires-clause-seats : goal.run-stage-requires-clause-seats
run-stage-requires-clause-seats g c = only_queues 0 c.args.self.tails.items c.args.self.targets.now (fresh_seats 0 c.args.self.tails.items c.args.self.targets.now c.requires.not_put)

pub returns : goal.returns
returns g c =
    let runs = c.run-stage.ensures.runs in
    let tails = c.run-stage.result.tails.items in
    let seats = c.run-stage.ensures.seats ∙ fresh_seats 0 c.args.self.tails.items c.args.self.targets.now c.requires.not_put in
    has_dispatched c.in-Ok-new.dispatch c.args.self.source.now c.args.self.targets.now tails c.each_pipeline_gets_its_own.ensures c.nothing_that_was_gathered_is_lost.ensures c.requires.pipelines (as_many 0 tails c.args.self.targets.now seats)
    c.in-Ok-new.ensures.gens c.in-Ok-new.ensures.tenant (runs.stage.1 ∙ ap (λ head. head.queue) c.requires.not_taken) seats runs.stage.0 runs.put
