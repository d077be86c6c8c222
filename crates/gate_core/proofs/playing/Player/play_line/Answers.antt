use Rattle.gate_core.proofs.playing.Player.play_line.Goals as goal

pub returns-in-Ok-clause-counts : goal.returns-in-Ok-clause-counts
returns-in-Ok-clause-counts g c = c.play_turn.ensures.counts c.args.before c.requires.counts

pub returns-in-Err-clause-counts : goal.returns-in-Err-clause-counts
returns-in-Err-clause-counts g c = c.play_turn.ensures.counts c.args.before c.requires.counts
