use Rattle.std.proofs.Common.{◌∙◌, ap}
use Rattle.std.specs.Prelude.{is_some}
use Rattle.std.specs.List.{list_any}
use Rattle.gate_items.specs.Machine.{State, has_set}
use Rattle.gate_items.proofs.Standing.{stands_somewhere}
use Rattle.gate_items.proofs.ordered.Ordered.current.Goals as goal

pub returns : goal.returns
returns c =
    c.is_some.ensures
    ∙ ap is_some c.place_of_set.ensures
    ∙ stands_somewhere (has_set c.args.set) c.self.inside.ring.items
    ∙ ap (λ (s : State). list_any (has_set c.args.set) s.items) c.self.view_is
