use Rattle.std.proofs.Common.{refl}
use Rattle.serde_json.specs.View.{view}
use Rattle.gate_record.proofs.JsonOf.{json_of_read, json_of_none}
use Rattle.gate_record.proofs.read.read_line.Goals as goal

pub returns-in-Ok : goal.returns-in-Ok
returns-in-Ok c = rw (json_of_read c.args.bytes.now (view c.in-Ok.value) c.in-Ok.ensures.ok) c.read_value.ensures

pub returns-in_default : goal.returns-in_default
returns-in_default c = rw (json_of_none c.args.bytes.now (c.in-Err.ensures.err (λ m. c.in_default.not-Memory (c.classify.ensures.memory.1 m)))) refl
