use Rattle.std.proofs.Common.{◌≡◌, ◌∙◌, Some, ap, sym}
use Rattle.std.specs.List.{position}
use Rattle.gate_items.specs.Machine.{State, has_set}
use Rattle.gate_items.specs.Inner.Steps.{changed}
use Rattle.gate_items.specs.declared.item.QueueItem.{QueueItem}
use Rattle.gate_items.proofs.Plans.{found_at, results_at, results_nothing}
use Rattle.gate_items.proofs.ordered.Ordered.result.Goals as goal

pub returns-in-None : goal.returns-in-None
returns-in-None c =
    ap (changed c.args.self.now) (sym (results_nothing c.args.self.now c.args.ended.now (c.in-None.ensures ∙ ap (λ (s : State). position (has_set c.args.ended.now.set) s.items) c.self.view_is)))

pub returns-in-Some : goal.returns-in-Some
returns-in-Some c =
    let e : Some c.in-Some.place ≡ position (has_set c.args.ended.now.set) c.args.self.now.items = c.in-Some.ensures ∙ ap (λ (s : State). position (has_set c.args.ended.now.set) s.items) c.self.view_is in
    let d : QueueItem = (found_at (has_set c.args.ended.now.set) c.args.self.now.items c.in-Some.place e).item in
    c.result_at.ensures d ∙ ap (changed c.args.self.now) (sym (results_at c.args.self.now c.args.ended.now c.in-Some.place d e))
