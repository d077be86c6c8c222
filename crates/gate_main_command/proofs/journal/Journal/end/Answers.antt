use Rattle.std.proofs.Common.{◌∙◌, ap, sym, ◌++◌, string_bytes}
use Rattle.gate_main_command.specs.Telling.{ends, next_lines}
use Rattle.gate_main_command.proofs.Told.{keeps_on, know_still, none_of, on_any, over_ok}
use Rattle.gate_main_command.proofs.journal.Journal.end.Goals as goal

pub returns : goal.returns
returns g c before so_far keeps =
    let config = c.args.place.now.config.now in
    let t = c.args.place.now.tenant.0 in
    let p = c.args.place.now.pipeline.0 in
    let well = none_of c.args.self.now.fault (sym c.is_some.ensures ∙ c.if-is_some.false) in
    let made = c.push_end-made.result in
    let journals = c.args.self.now.pipelines.journals.items in
    keeps_on g.W.Write.contents config so_far (ends t p c.args.finished c.args.items) before c.args.self.now c.write.new.self made (string_bytes c.push_end-made.new.out) journals keeps well
    (over_ok (λ bytes. bytes ∙ ap (λ front. front ++ next_lines config so_far (ends t p c.args.finished c.args.items)) c.clear.ensures.bytes) made c.push_end-made.ensures)
    (on_any (know_still config so_far t p c.args.finished c.args.items journals (keeps.knows well)) made) c.write.ensures.made c.write.ensures.written (ap (λ pipelines. pipelines.journals.items) c.write.ensures.pipelines)
