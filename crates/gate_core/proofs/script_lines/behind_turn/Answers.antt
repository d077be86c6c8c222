use Rattle.std.proofs.Common.{codes}
use Rattle.std.proofs.lemmas.Bool.Decides.{Decides-eqb}
use Rattle.std.proofs.lemmas.Slice.Eq.{strip_prefix_is}
use Rattle.gate_core.proofs.TurnLines.{behind}
use Rattle.gate_core.proofs.script_lines.behind_turn.Goals as goal

pub returns : goal.returns
returns c = behind (codes "turn ") c.args.line.now c.strip_prefix.result (strip_prefix_is Decides-eqb c.args.line.now (codes "turn ") c.strip_prefix.result c.strip_prefix.ensures.cases)
