use Rattle.std.proofs.Common.{inr, refl, inl}
use Rattle.serde_json.specs.View.{view}
use Rattle.gate_record.proofs.JsonOf.{json_of_read, json_of_none}
use Rattle.gate_config.proofs.Outcome.{config_read, config_passed, config_fault}
use Rattle.gate_config.proofs.read.read_sharing.Goals as goal

pub returns-in-Ok-clause-read : goal.returns-in-Ok-clause-read
returns-in-Ok-clause-read c =
    config_read _ _ c.read_document.result (json_of_read c.args.bytes.now (view c.in-Ok.document) c.in-Ok.ensures.ok) c.read_document.ensures

pub returns-in-Ok-clause-passed : goal.returns-in-Ok-clause-passed
returns-in-Ok-clause-passed c =
    config_passed _ _ c.read_document.result (json_of_read c.args.bytes.now (view c.in-Ok.document) c.in-Ok.ensures.ok) c.read_document.ensures

pub returns-in-Ok-clause-fault : goal.returns-in-Ok-clause-fault
returns-in-Ok-clause-fault c =
    config_fault _ _ c.read_document.result (json_of_read c.args.bytes.now (view c.in-Ok.document) c.in-Ok.ensures.ok) c.read_document.ensures

pub returns-in_default : goal.returns-in_default
returns-in_default c = record {
  read = tt;
  passed = tt;
  fault = rw (json_of_none c.args.bytes.now (c.in-Err.ensures.err (λ m. c.in_default.not-Memory (c.classify.ensures.memory.1 m)))) (inr (inl (refl, refl)));
}
