use Rattle.std.proofs.Common.{◌≡◌, ◌∙◌, ap, subst, sym}
use Rattle.gate_items.specs.History.{start}
use Rattle.gate_items.specs.Machine.{State, apply}
use Rattle.gate_items.specs.declared.action.Outcome.{Outcome}
use Rattle.gate_journal.specs.Follows.{Knows, items_after}
use Rattle.gate_journal.proofs.Following.{one_more}
use Rattle.gate_journal.proofs.Pushed.{on_ok}
use Rattle.gate_journal.proofs.pipeline_journal.PipelineJournal.push_action.Goals as goal

pub returns-in-Discarded-clause-knows : goal.returns-in-Discarded-clause-knows
returns-in-Discarded-clause-knows c manager actions knows e =
    let s = items_after manager actions in
    let a = c.args.processed.now.action.now in
    let same : (apply s a).0 ≡ s = c.discarded_actions_change_nothing.ensures s a c.in-Discarded.why (ap (λ (p : State × Outcome). p.1) (sym e) ∙ c.in-Discarded.is) in
    on_ok c.push_discard.result (λ _. subst (Knows c.args.self.now manager) (sym (one_more (start manager 0) actions a ∙ same)) knows) c.push_discard.ensures

pub returns-in-Applied-clause-knows : goal.returns-in-Applied-clause-knows
returns-in-Applied-clause-knows c manager actions knows e =
    let s = items_after manager actions in
    let a = c.args.processed.now.action.now in
    let applied = ap (λ (o : Outcome). (c.args.processed.now.items.now, o)) (sym c.in-Applied.is) ∙ e in
    on_ok c.push_applied.result (λ known. subst (Knows c.push_applied.new.self manager) (ap (λ (p : State × Outcome). p.0) e ∙ sym (one_more (start manager 0) actions a)) known) (c.push_applied.ensures.knows manager actions knows applied)
