use Rattle.std.proofs.Common.{◌∙◌, ap, sym}
use Rattle.std.specs.List.{position}
use Rattle.gate_items.specs.Machine.{State, is_of}
use Rattle.gate_items.specs.Inner.Steps.{changed}
use Rattle.gate_items.proofs.Plans.{dequeues_at, dequeues_nothing}
use Rattle.gate_items.proofs.ordered.Ordered.dequeue.Goals as goal

pub returns-in-None : goal.returns-in-None
returns-in-None c =
    ap (changed c.args.self.now) (sym (dequeues_nothing c.args.self.now c.args.key.now (c.in-None.ensures ∙ ap (λ (s : State). position (is_of c.args.key.now) s.items) c.self.view_is)))

pub returns-in-Some : goal.returns-in-Some
returns-in-Some c =
    c.dequeue_at.ensures
    ∙ ap (changed c.args.self.now) (sym (dequeues_at c.args.self.now c.args.key.now c.in-Some.place (c.in-Some.ensures ∙ ap (λ (s : State). position (is_of c.args.key.now) s.items) c.self.view_is)))
