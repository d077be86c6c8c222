use Rattle.gate_core.specs.Worlds.{state_of}
use Rattle.gate_core.proofs.Lines.{still_few}
use Rattle.gate_core.proofs.playing.Player.play_other.Goals as goal

pub returns-in-Err-Memory-clause-counts : goal.returns-in-Err-Memory-clause-counts
returns-in-Err-Memory-clause-counts g c = still_few c.args.before (state_of c.args.self.now.world) c.requires.counts
