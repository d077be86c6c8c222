use Rattle.std.proofs.Common.{◌∙◌}
use Rattle.gate_run_stages.proofs.Stages.{same_queues}
use Rattle.gate_run_stages.proofs.stage.run.Goals as goal

pub step-requires-clause-seats : goal.step-requires-clause-seats
step-requires-clause-seats g c =
    let (iterator, ready, runs, seats) = c.loop.invariant in
    same_queues c.args.running.tails.items c.loop.running.tails.items seats ∙ c.requires.seats
