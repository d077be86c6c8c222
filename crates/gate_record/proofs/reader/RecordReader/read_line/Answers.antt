use Rattle.std.proofs.Common.{ap, sym}
use Rattle.gate_record.specs.Reading.{reading_of_json}
use Rattle.gate_record.proofs.JsonOf.{json_of_not_utf8}
use Rattle.gate_record.proofs.reader.RecordReader.read_line.Goals as goal

pub returns-in-Err : goal.returns-in-Err
returns-in-Err c = ap reading_of_json (sym (json_of_not_utf8 c.args.bytes.now c.in-Err.ensures))
