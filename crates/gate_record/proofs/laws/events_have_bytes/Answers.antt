use Rattle.gate_record.proofs.EventBytes.{events_have_bytes}
use Rattle.gate_record.proofs.laws.events_have_bytes.Goals as goal

pub returns : goal.returns
returns c = events_have_bytes
