use Rattle.std.proofs.Common.{◌≡◌, ◌∙◌, ap, subst}
use Rattle.std.specs.BTreeMap.{get}
use Rattle.std.specs.Ordering.{nat_cmp}
use Rattle.gate_items.specs.KeyOrder.{key_cmp}
use Rattle.gate_items.specs.History.{is_current}
use Rattle.gate_items.specs.Machine.{State}
use Rattle.std.specs.Prelude.{is_some}
use Rattle.gate_items.proofs.Acts.{current_is}
use Rattle.gate_items.proofs.indexed.Indexed.current.Goals as goal

pub returns : goal.returns
returns c =
    c.is_some.ensures ∙ ap is_some c.place_of_set.ensures
    ∙ subst (λ (s : State). is_some (get nat_cmp c.self.inside.index.by_set c.args.set) ≡ is_current s c.args.set) c.self.view_is
    (current_is c.self.inside.next c.self.inside.index.items.entries (get key_cmp c.self.inside.index.by_key) (get nat_cmp c.self.inside.index.by_set) c.self.invariant.0 c.args.set)
