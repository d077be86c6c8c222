use Rattle.gate_run_stages.proofs.stage.Running.step.Goals as goal

pub returns-in-Some-clause-runs : goal.returns-in-Some-clause-runs
returns-in-Some-clause-runs g c first run = c.hand_on.ensures.runs first (record { sent = run.sent; stage = c.in-Some.ensures.moves first run.sent run.stage; put = run.put })

pub returns-in-None-clause-runs : goal.returns-in-None-clause-runs
returns-in-None-clause-runs g c first run = record { sent = run.sent; stage = c.take.ensures.keeps first run.sent (c.in-None.ensures.moves first run.sent run.stage); put = run.put }
