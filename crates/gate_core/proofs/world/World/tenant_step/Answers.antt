use Rattle.std.proofs.Common.{map, subst, sym, OnErr, ℕ, Option}
use Rattle.std.proofs.lemmas.Option.{slice_get_past}
use Rattle.gate_config.specs.declared.generations.Generations.{Generations}
use Rattle.gate_core.specs.Answers.{Does}
use Rattle.gate_core.specs.Needs.{IsThere}
use Rattle.gate_core.specs.Inner.Needs.{TenantNeeds}
use Rattle.gate_core.specs.Inner.Steps.{tenant_step}
use Rattle.gate_core.specs.States.{TenantState}
use Rattle.gate_core.specs.Views.{connection_view, tenant_view}
use Rattle.gate_core.proofs.Elements.{lent, seen}
use Rattle.gate_core.proofs.Wholes.{tenant_does, tenant_idles, known, still_tenants}
use Rattle.gate_core.proofs.world.World.tenant_step.Goals as goal

pub invariant_of-self-clause-tenants_by_number : goal.invariant_of-self-clause-tenants_by_number
invariant_of-self-clause-tenants_by_number c =
    let tenants = c.args.self.now.tenants.items in
    let at = lent tenants c.args.tenant.0 _ c.in-Some.ensures.item.3.0 c.in-Some.ensures.item.1 in
    still_tenants c.args.self.now.gens.now tenants c.args.tenant.0 c.in-Some.tenant.now c.step.new.self at c.args.self.now.tenants_by_number c.step.ensures.gens c.step.ensures.number

pub returns-in-Some-clause-moves : goal.returns-in-Some-clause-moves
returns-in-Some-clause-moves c =
    let tenants = c.args.self.now.tenants.items in
    let at = lent tenants c.args.tenant.0 _ c.in-Some.ensures.item.3.0 c.in-Some.ensures.item.1 in
    tenant_does (tenant_step c.args.self.now.gens.now c.args.tenant.0 c.args.step) c.args.tenant.0 (map connection_view c.args.self.now.connections.items) tenants c.in-Some.tenant.now c.step.new.self c.step.result at
    (known (λ (gens : Generations) (n : ℕ). Does (tenant_view c.in-Some.tenant.now) (tenant_step gens n c.args.step (tenant_view c.in-Some.tenant.now)) (tenant_view c.step.new.self) c.step.result) _ _ _ _ (c.args.self.now.tenants_by_number c.args.tenant.0 c.in-Some.tenant.now at) c.step.ensures.does)

pub returns-in-Some-clause-needs : goal.returns-in-Some-clause-needs
returns-in-Some-clause-needs c =
    let tenants = c.args.self.now.tenants.items in
    let at = lent tenants c.args.tenant.0 _ c.in-Some.ensures.item.3.0 c.in-Some.ensures.item.1 in
    subst (λ (o : Option TenantState). OnErr c.step.result (IsThere (TenantNeeds c.args.self.now.gens.now.first c.args.tenant.0 c.args.step) o)) (sym (seen tenant_view tenants c.args.tenant.0 c.in-Some.tenant.now at))
    (known (λ (gens : Generations) (n : ℕ). OnErr c.step.result (TenantNeeds gens.first n c.args.step (tenant_view c.in-Some.tenant.now))) _ _ _ _ (c.args.self.now.tenants_by_number c.args.tenant.0 c.in-Some.tenant.now at) c.step.ensures.needs)

pub returns-in-None-clause-moves : goal.returns-in-None-clause-moves
returns-in-None-clause-moves c =
    let tenants = c.args.self.now.tenants.items in
    tenant_idles (tenant_step c.args.self.now.gens.now c.args.tenant.0 c.args.step) c.args.tenant.0 (map connection_view c.args.self.now.connections.items) tenants (slice_get_past tenants c.args.tenant.0 c.in-None.ensures.item.3)
