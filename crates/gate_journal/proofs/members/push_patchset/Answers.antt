use Rattle.std.proofs.Common.{◌∙◌, ◌++◌, ap, codes, string_bytes}
use Rattle.gate_journal.proofs.Pushed.{on_ok}
use Rattle.gate_journal.proofs.members.push_patchset.Goals as goal

pub returns : goal.returns
returns c = on_ok c.push_parts.result (λ e. e ∙ ap (λ text. string_bytes c.args.out.now ++ (codes "\"patchset\":" ++ (text ++ codes ","))) (c.as_str.ensures.value ∙ c.in_ok-patchset.ensures.ok)) c.push_parts.ensures
