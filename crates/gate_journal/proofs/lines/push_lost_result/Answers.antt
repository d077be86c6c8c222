use Rattle.std.proofs.Common.{◌∙◌, ◌++◌, ap, codes, decimal, string_bytes}
use Rattle.gate_record.specs.Names.{name_text}
use Rattle.gate_journal.specs.Lines.{why_end}
use Rattle.gate_journal.specs.Members.{pipeline_members}
use Rattle.gate_journal.proofs.Pushed.{behind}
use Rattle.gate_journal.proofs.lines.push_lost_result.Goals as goal

pub returns : goal.returns
returns c =
    behind (string_bytes c.args.out.now) (codes "{\"discard\":\"result\",\"job\":" ++ (name_text c.args.ended.now.job ++ codes ",")) ((pipeline_members c.args.place.now.config.now c.args.place.now.tenant.0 c.args.place.now.pipeline.0) ++ ((codes "\"set\":" ++ (decimal c.args.ended.now.set ++ codes ",")) ++ (why_end c.args.place.now.config.now c.args.place.now.tenant.0 c.args.why.now))) (c.in_ok-push_job.ensures ∙ ap (λ job. string_bytes c.args.out.now ++ (codes "{\"discard\":\"result\",\"job\":" ++ (name_text job ++ codes ","))) c.as_str.ensures) (behind (string_bytes c.push_job.new.out) (pipeline_members c.args.place.now.config.now c.args.place.now.tenant.0 c.args.place.now.pipeline.0) ((codes "\"set\":" ++ (decimal c.args.ended.now.set ++ codes ",")) ++ (why_end c.args.place.now.config.now c.args.place.now.tenant.0 c.args.why.now)) (c.in_ok-push_pipeline.ensures) (behind (string_bytes c.push_pipeline.new.out) (codes "\"set\":" ++ (decimal c.args.ended.now.set ++ codes ",")) (why_end c.args.place.now.config.now c.args.place.now.tenant.0 c.args.why.now) (c.in_ok-push_set.ensures) (c.in_ok-push_why.ensures)))
