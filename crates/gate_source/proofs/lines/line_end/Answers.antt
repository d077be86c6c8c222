use Rattle.gate_source.proofs.LineEnds.{first_is_position}
use Rattle.gate_source.proofs.lines.line_end.Goals as goal

pub returns : goal.returns
returns c = first_is_position c.args.piece.now c.memchr.result c.memchr.ensures
