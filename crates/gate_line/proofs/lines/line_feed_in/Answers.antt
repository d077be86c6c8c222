use Rattle.memchr.specs.Find.{is_byte}
use Rattle.gate_line.proofs.FirstBytes.{first_is_position}
use Rattle.gate_line.proofs.lines.line_feed_in.Goals as goal

pub returns : goal.returns
returns c = first_is_position (is_byte 10) c.args.text.now c.memchr.result c.memchr.ensures
