use Rattle.std.proofs.Common.{◌∙◌, ap, sym, ◌++◌, string_bytes}
use Rattle.gate_main_command.specs.Telling.{acts, next_lines}
use Rattle.gate_main_command.proofs.Told.{keeps_on, none_of, over_ok}
use Rattle.gate_main_command.proofs.journal.Journal.tell.Goals as goal

pub returns : goal.returns
returns g c before so_far keeps true_told =
    let config = c.args.place.now.config.now in
    let next = acts c.args.place.now.tenant.0 c.args.place.now.pipeline.0 c.args.processed.now.stamp c.args.processed.now.action.now in
    let well = none_of c.args.self.now.fault (sym c.is_some.ensures ∙ c.if-is_some.false) in
    let all = keeps.knows well in
    let made = c.push_action-made.result in
    keeps_on g.W.Write.contents config so_far next before c.args.self.now c.write.new.self made (string_bytes c.push_action-made.new.out) c.push_action-made.new.self.journals.items keeps well
    (over_ok (λ bytes. bytes ∙ ap (λ front. front ++ next_lines config so_far next) c.clear.ensures.bytes) made (c.push_action-made.ensures.lines so_far all true_told))
    (c.push_action-made.ensures.knows so_far all true_told) c.write.ensures.made c.write.ensures.written (ap (λ pipelines. pipelines.journals.items) c.write.ensures.pipelines)
