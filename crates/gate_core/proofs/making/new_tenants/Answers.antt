use Rattle.gate_core.specs.Steps.{new_tenant}
use Rattle.gate_core.specs.Views.{tenant_view}
use Rattle.gate_core.specs.Inner.Views.{IsTenant}
use Rattle.gate_core.proofs.Makings.{one_made}
use Rattle.gate_core.proofs.making.new_tenants.Goals as goal

pub loop-number-preserved : goal.loop-number-preserved
loop-number-preserved c =
    one_made tenant_view (new_tenant c.args.gens.now.first) (IsTenant c.args.gens.now) c.in_ok-new.field-0 c.in_ok-push.ensures.items c.loop-number.invariant (c.in_ok-new.ensures.gens, c.in_ok-new.ensures.number) c.in_ok-new.ensures.view
