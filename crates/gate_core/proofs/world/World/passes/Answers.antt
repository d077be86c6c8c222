use Rattle.std.proofs.Common.{◌∙◌, map, ap, refl, sym, Ok, List, slice_set}
use Rattle.gate_core.specs.declared.answer.Answer.TheVariants.{Passed}
use Rattle.gate_core.specs.declared.pipeline.Pipeline.{Pipeline}
use Rattle.gate_core.specs.declared.pipeline.PipelineStep.TheVariants.{Turn}
use Rattle.gate_core.specs.Pipelines.{Found, turned_by}
use Rattle.gate_core.specs.States.{TenantState}
use Rattle.gate_core.specs.Inner.Sends.{state}
use Rattle.gate_core.specs.Views.{connection_view, tenant_view}
use Rattle.gate_core.proofs.Elements.{lent, seen_same, written_back}
use Rattle.gate_core.proofs.Wholes.{lent_tenants, pipeline_does}
use Rattle.gate_core.proofs.world.World.passes.Goals as goal

pub invariant_of-self-clause-tenants_by_number : goal.invariant_of-self-clause-tenants_by_number
invariant_of-self-clause-tenants_by_number c =
    lent_tenants c.args.self.now.gens.now c.args.self.now.tenants.items c.args.tenant.0 c.in-Some.tenant.now _ c.in-Some.ensures.item.3.0 c.in-Some.ensures.item.1 c.args.self.now.tenants_by_number refl refl

pub returns-in-Some-get_mut-clause-passes : goal.returns-in-Some-get_mut-clause-passes
returns-in-Some-get_mut-clause-passes c e =
    let tenants = c.args.self.now.tenants.items in
    let tenant = c.in-Some.tenant.now in
    let pipe = c.in-Some-get_mut.pipeline.now in
    let at = lent tenants c.args.tenant.0 _ c.in-Some.ensures.item.3.0 c.in-Some.ensures.item.1 in
    let whose = lent tenant.pipelines.items c.args.pipeline.0 _ c.in-Some-get_mut.ensures.item.3.0 c.in-Some-get_mut.ensures.item.1 in
    let passed = c.passes.ensures.passes e in
    pipeline_does c.args.self.now.gens.now c.args.tenant.0 c.args.pipeline.0 (map connection_view c.args.self.now.connections.items) tenants Turn tenant _ pipe c.passes.new.self (Ok Passed)
    at whose refl (passed.1 ∙ sym (ap (λ (found : Found). turned_by c.args.self.now.gens.now.first found pipe) passed.0))

pub returns-in-Some-get_mut-clause-stays : goal.returns-in-Some-get_mut-clause-stays
returns-in-Some-get_mut-clause-stays c e =
    let tenants = c.args.self.now.tenants.items in
    let tenant = c.in-Some.tenant.now in
    let pipes = tenant.pipelines.items in
    let at = lent tenants c.args.tenant.0 _ c.in-Some.ensures.item.3.0 c.in-Some.ensures.item.1 in
    let whose = lent pipes c.args.pipeline.0 _ c.in-Some-get_mut.ensures.item.3.0 c.in-Some-get_mut.ensures.item.1 in
    let same = ap (slice_set pipes c.args.pipeline.0) (c.passes.ensures.stays e).0 ∙ written_back pipes c.args.pipeline.0 c.in-Some-get_mut.pipeline.now whose in
    ap (λ (ts : List TenantState). state (map connection_view c.args.self.now.connections.items) ts)
    (seen_same tenant_view tenants c.args.tenant.0 tenant _ at (ap (λ (ps : List Pipeline). record (tenant_view tenant) { pipelines = ps }) same))

pub invariant_of-self-in-None-get_mut-clause-tenants_by_number : goal.invariant_of-self-in-None-get_mut-clause-tenants_by_number
invariant_of-self-in-None-get_mut-clause-tenants_by_number c =
    lent_tenants c.args.self.now.gens.now c.args.self.now.tenants.items c.args.tenant.0 c.in-Some.tenant.now _ c.in-Some.ensures.item.3.0 c.in-Some.ensures.item.1 c.args.self.now.tenants_by_number refl refl

pub returns-in-None-get_mut-clause-stays : goal.returns-in-None-get_mut-clause-stays
returns-in-None-get_mut-clause-stays c e =
    let tenants = c.args.self.now.tenants.items in
    let at = lent tenants c.args.tenant.0 _ c.in-Some.ensures.item.3.0 c.in-Some.ensures.item.1 in
    ap (λ (ts : List TenantState). state (map connection_view c.args.self.now.connections.items) ts) (seen_same tenant_view tenants c.args.tenant.0 c.in-Some.tenant.now _ at refl)
