use Rattle.gate_main_program.proofs.serving.run.Goals as goal

pub returns : goal.returns
returns g c = c.in_ok-ran.ensures
