use Rattle.std.proofs.Common.{◌≡◌, ◌∙◌, Some, ap, get_or, sym}
use Rattle.std.specs.List.{position}
use Rattle.gate_items.specs.Machine.{State, has_set}
use Rattle.gate_items.specs.declared.item.QueueItem.{QueueItem}
use Rattle.gate_items.proofs.Plans.{found}
use Rattle.gate_items.proofs.Standing.{stands_at, stands_nowhere}
use Rattle.gate_items.proofs.ordered.Ordered.item.Goals as goal

pub returns-in-None : goal.returns-in-None
returns-in-None c =
    sym (stands_nowhere (has_set c.args.set) c.args.self.now.items (c.in-None.ensures ∙ ap (λ (s : State). position (has_set c.args.set) s.items) c.self.view_is))

pub returns-in-Some : goal.returns-in-Some
returns-in-Some c =
    let s = c.args.self.now in
    let d : QueueItem = c.item.result.now in
    let e : Some c.in-Some.place ≡ position (has_set c.args.set) s.items = c.in-Some.ensures ∙ ap (λ (t : State). position (has_set c.args.set) t.items) c.self.view_is in
    ap (λ (x : QueueItem). Some x) (c.item.ensures ∙ ap (λ (t : State). get_or t.items c.in-Some.place d) c.self.view_is)
    ∙ sym (found s (has_set c.args.set) c.in-Some.place (stands_at (has_set c.args.set) s.items c.in-Some.place e) d)
