use Rattle.std.proofs.Common.{◌∙◌, ap, refl, ◌++◌, string_bytes}
use Rattle.gate_core.proofs.Elements.{lent}
use Rattle.gate_main_command.specs.Telling.{actions_of, manager_of}
use Rattle.gate_main_command.proofs.Told.{know_one_more, lent_knows, no_journal, no_row, over_ok, true_lines}
use Rattle.gate_main_command.proofs.pipeline_journals.PipelineJournals.push_action.Goals as goal

pub returns-in-Some-get_mut-clause-lines : goal.returns-in-Some-get_mut-clause-lines
returns-in-Some-get_mut-clause-lines c so_far all happened =
    let config = c.args.place.now.config.now in
    let t = c.args.place.now.tenant.0 in
    let p = c.args.place.now.pipeline.0 in
    let knows = lent_knows config so_far t p _ _ _ all c.in-Some.ensures.item.3.0 c.in-Some.ensures.item.1 c.in-Some-get_mut.ensures.item.3.0 c.in-Some-get_mut.ensures.item.1 in
    over_ok (λ bytes. bytes ∙ ap (λ lines. string_bytes c.args.out.now ++ lines) (true_lines config so_far t p c.args.processed.now.stamp c.args.processed.now.action.now c.args.processed.now.outcome c.args.processed.now.items.now happened))
    c.push_action.result (c.push_action.ensures.lines (manager_of config t p) (actions_of t p so_far) knows happened.happened)

pub returns-in-Some-get_mut-clause-knows : goal.returns-in-Some-get_mut-clause-knows
returns-in-Some-get_mut-clause-knows c so_far all happened =
    let config = c.args.place.now.config.now in
    let t = c.args.place.now.tenant.0 in
    let p = c.args.place.now.pipeline.0 in
    let manager = manager_of config t p in
    let at = lent c.args.self.now.journals.items t _ c.in-Some.ensures.item.3.0 c.in-Some.ensures.item.1 in
    let own = lent c.in-Some.journals.now.items p _ c.in-Some-get_mut.ensures.item.3.0 c.in-Some-get_mut.ensures.item.1 in
    let knows = (all.1 t _ at).1 p _ own in
    over_ok (λ after. know_one_more config so_far t p c.args.processed.now.stamp c.args.processed.now.action.now c.args.self.now.journals.items c.in-Some.journals.now _ c.in-Some-get_mut.journal.now c.push_action.new.self at own refl after all)
    c.push_action.result (c.push_action.ensures.knows manager (actions_of t p so_far) knows happened.happened)

pub returns-in-None-get_mut-clause-lines : goal.returns-in-None-get_mut-clause-lines
returns-in-None-get_mut-clause-lines c so_far all happened =
    let at = lent c.args.self.now.journals.items c.args.place.now.tenant.0 _ c.in-Some.ensures.item.3.0 c.in-Some.ensures.item.1 in
    absurd (no_journal c.args.place.now.config.now so_far c.args.place.now.tenant.0 c.args.place.now.pipeline.0 c.in-Some.journals.now.items (all.1 c.args.place.now.tenant.0 _ at) happened.there c.in-None-get_mut.ensures.item.3)

pub returns-in-None-get_mut-clause-knows : goal.returns-in-None-get_mut-clause-knows
returns-in-None-get_mut-clause-knows c so_far all happened =
    let at = lent c.args.self.now.journals.items c.args.place.now.tenant.0 _ c.in-Some.ensures.item.3.0 c.in-Some.ensures.item.1 in
    absurd (no_journal c.args.place.now.config.now so_far c.args.place.now.tenant.0 c.args.place.now.pipeline.0 c.in-Some.journals.now.items (all.1 c.args.place.now.tenant.0 _ at) happened.there c.in-None-get_mut.ensures.item.3)

pub returns-in-None-clause-lines : goal.returns-in-None-clause-lines
returns-in-None-clause-lines c so_far all happened =
    absurd (no_row c.args.place.now.config.now so_far c.args.place.now.tenant.0 c.args.place.now.pipeline.0 c.args.self.now.journals.items all happened.there c.in-None.ensures.item.3)

pub returns-in-None-clause-knows : goal.returns-in-None-clause-knows
returns-in-None-clause-knows c so_far all happened =
    absurd (no_row c.args.place.now.config.now so_far c.args.place.now.tenant.0 c.args.place.now.pipeline.0 c.args.self.now.journals.items all happened.there c.in-None.ensures.item.3)
