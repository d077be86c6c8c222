use Rattle.std.proofs.Common.{◌++◌, codes, string_bytes}
use Rattle.gate_journal.specs.Lines.{why_end}
use Rattle.gate_journal.specs.Members.{pipeline_members, record_member}
use Rattle.gate_journal.proofs.Pushed.{behind}
use Rattle.gate_journal.proofs.lines.push_lost_trigger.Goals as goal

pub returns : goal.returns
returns c =
    behind (string_bytes c.args.out.now) (codes "{\"discard\":\"trigger\",") ((pipeline_members c.args.place.now.config.now c.args.place.now.tenant.0 c.args.place.now.pipeline.0) ++ ((record_member c.args.place.now.config.now c.args.stamp) ++ (why_end c.args.place.now.config.now c.args.place.now.tenant.0 c.args.why.now))) (c.in_ok-push_str.ensures.bytes) (behind (string_bytes c.push_str.new.self) (pipeline_members c.args.place.now.config.now c.args.place.now.tenant.0 c.args.place.now.pipeline.0) ((record_member c.args.place.now.config.now c.args.stamp) ++ (why_end c.args.place.now.config.now c.args.place.now.tenant.0 c.args.why.now)) (c.in_ok-push_pipeline.ensures) (behind (string_bytes c.push_pipeline.new.out) (record_member c.args.place.now.config.now c.args.stamp) (why_end c.args.place.now.config.now c.args.place.now.tenant.0 c.args.why.now) (c.in_ok-push_record.ensures) (c.in_ok-push_why.ensures)))
