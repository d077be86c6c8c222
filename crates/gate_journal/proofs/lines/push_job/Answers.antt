use Rattle.std.proofs.Common.{◌∙◌, ◌++◌, ap, codes, string_bytes}
use Rattle.gate_journal.proofs.Pushed.{on_ok}
use Rattle.gate_journal.proofs.lines.push_job.Goals as goal

pub returns : goal.returns
returns c =
    on_ok c.push_parts.result (λ e. e ∙ ap (λ text. string_bytes c.args.out.now ++ (c.args.member.now ++ (text ++ codes ","))) (c.as_str.ensures.value ∙ c.in_ok-job.ensures)) c.push_parts.ensures
