use Rattle.gate_core.proofs.playing.Player.play.Goals as goal

pub returns-in-Step-clause-counts : goal.returns-in-Step-clause-counts
returns-in-Step-clause-counts g c = c.play_step.ensures.counts c.args.before c.requires.counts
