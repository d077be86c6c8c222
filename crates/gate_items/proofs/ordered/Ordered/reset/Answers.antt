use Rattle.std.proofs.Common.{◌≡◌, ◌∙◌, Some, ap, sym}
use Rattle.std.specs.List.{position}
use Rattle.gate_items.specs.Machine.{State, is_of}
use Rattle.gate_items.specs.Inner.Steps.{changed}
use Rattle.gate_items.specs.declared.item.QueueItem.{QueueItem}
use Rattle.gate_items.proofs.Plans.{found_at, resets_at, resets_nothing}
use Rattle.gate_items.proofs.ordered.Ordered.reset.Goals as goal

pub returns-in-None : goal.returns-in-None
returns-in-None c =
    ap (changed c.args.self.now) (sym (resets_nothing c.args.self.now c.args.key.now (c.in-None.ensures ∙ ap (λ (s : State). position (is_of c.args.key.now) s.items) c.self.view_is)))

pub returns-in-Some : goal.returns-in-Some
returns-in-Some c =
    let e : Some c.in-Some.place ≡ position (is_of c.args.key.now) c.args.self.now.items = c.in-Some.ensures ∙ ap (λ (s : State). position (is_of c.args.key.now) s.items) c.self.view_is in
    let d : QueueItem = (found_at (is_of c.args.key.now) c.args.self.now.items c.in-Some.place e).item in
    c.reset_at.ensures d ∙ ap (changed c.args.self.now) (sym (resets_at c.args.self.now c.args.key.now c.in-Some.place d e))
