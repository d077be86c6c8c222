use Rattle.std.proofs.Common.{◌∙◌, refl, ap}
use Rattle.gate_run_stages.proofs.Forwarders.{has_forwarded, not_forwarded, sends_nothing}
use Rattle.gate_run_threads.proofs.Seated.{as_many, fresh_put, fresh_seats, only_queues}
use Rattle.gate_run_stages.proofs.forwarder.ForwarderWorkPassedOnHeadConnEntryTenantItem.work.Goals as goal

pub returns-in_default : goal.returns-in_default
returns-in_default g c = not_forwarded c.args.self.gens.now c.args.self.conn.0 c.args.self.source.now c.args.self.targets.now c.args.self.head c.args.self.tails.items c.requires.not_taken c.requires.not_put

pub run-stage-requires-clause-begins : goal.run-stage-requires-clause-begins
run-stage-requires-clause-begins g c = (sends_nothing c.new.result c.args.self.head c.args.self.source.now c.new.ensures.state c.requires.not_taken, refl)

pub run-stage-requires-clause-not_put : goal.run-stage-requires-clause-not_put
run-stage-requires-clause-not_put g c = fresh_put c.args.self.conn.0 c.args.self.tails.items c.args.self.targets.now c.requires.not_put

pub run-stage-requires-clause-seats : goal.run-stage-requires-clause-seats
run-stage-requires-clause-seats g c = only_queues c.args.self.conn.0 c.args.self.tails.items c.args.self.targets.now (fresh_seats c.args.self.conn.0 c.args.self.tails.items c.args.self.targets.now c.requires.not_put)

pub returns : goal.returns
returns g c =
    let runs = c.run-stage.ensures.runs in
    let tails = c.run-stage.result.tails.items in
    let seats = c.run-stage.ensures.seats ∙ fresh_seats c.args.self.conn.0 c.args.self.tails.items c.args.self.targets.now c.requires.not_put in
    has_forwarded c.new.result c.args.self.source.now c.args.self.targets.now tails c.each_tenant_gets_its_own.ensures c.entries_have_generations.ensures c.requires.tenants (as_many c.args.self.conn.0 tails c.args.self.targets.now seats)
    c.new.ensures.gens c.new.ensures.conn (runs.stage.1 ∙ ap (λ head. head.queue) c.requires.not_taken) seats runs.stage.0 runs.put
