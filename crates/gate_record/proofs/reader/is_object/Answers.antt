use Rattle.std.proofs.Common.{◌∙◌}
use Rattle.gate_record.proofs.Readings.{object_at_place}
use Rattle.gate_record.proofs.reader.is_object.Goals as goal

pub returns : goal.returns
returns c value begins = c.is_some.ensures ∙ object_at_place c.args.root.now value c.members.result c.members.ensures begins
