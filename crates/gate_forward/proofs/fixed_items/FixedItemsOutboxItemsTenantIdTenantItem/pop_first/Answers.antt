use Rattle.std.proofs.Common.{◌∙◌, ap, sym, arith, ◌∷◌, length, reverse}
use Rattle.std.proofs.lemmas.List.{length-append, reverse-append}
use Rattle.gate_forward.proofs.fixed_items.FixedItemsOutboxItemsTenantIdTenantItem.pop_first.Goals as goal

pub returns : goal.returns
returns c =
    let items = c.in_ok-tenant.ensures.items in (
      ap reverse items ∙ reverse-append c.pop.new.self.items _ ∙ ap (λ first. first ∷ reverse c.pop.new.self.items) (sym c.item.view_is),
      omega (arith, ap length items ∙ length-append c.pop.new.self.items _, c.args.self.now.few),
    )
