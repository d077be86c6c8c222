use Rattle.gate_core.specs.Steps.{new_tenant}
use Rattle.gate_core.specs.Views.{tenant_view}
use Rattle.gate_core.specs.Inner.Views.{IsTenant}
use Rattle.gate_core.proofs.Makings.{AreMade}
use Rattle.gate_core.proofs.making.new_tenants.Given as goal

abbrev pub invariant-loop-number : goal.invariant-loop-number
invariant-loop-number l = AreMade tenant_view (new_tenant l.gens.first) (IsTenant l.gens) l.number l.tenants.items
