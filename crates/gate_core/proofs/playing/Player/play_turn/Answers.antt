use Rattle.std.proofs.Common.{subst, sym}
use Rattle.gate_core.specs.Worlds.{AcceptedAtMost}
use Rattle.gate_core.proofs.playing.Player.play_turn.Goals as goal

pub returns-clause-counts : goal.returns-clause-counts
returns-clause-counts g c most few = c.play_step.ensures.counts most (subst (AcceptedAtMost most) (sym (c.passes.ensures.stays c.if-passes.false)) few)
