use Rattle.std.proofs.Common.{◌∙◌, map, ap, refl, subst, sym, OnErr, Option, Ok}
use Rattle.std.proofs.lemmas.Option.{slice_get_past}
use Rattle.gate_core.specs.Inner.Steps.{with_pipeline}
use Rattle.gate_core.specs.declared.answer.Answer.TheVariants.{Idle}
use Rattle.gate_core.specs.declared.pipeline.Pipeline.{Pipeline}
use Rattle.gate_core.specs.Needs.{IsThere}
use Rattle.gate_core.specs.Inner.Needs.{PipelineNeeds}
use Rattle.gate_core.specs.Inner.Pipelines.{pipeline_step}
use Rattle.gate_core.specs.Steps.{on_pipeline}
use Rattle.gate_core.specs.Views.{connection_view, tenant_view}
use Rattle.gate_core.proofs.Elements.{lent}
use Rattle.gate_core.proofs.Wholes.{lent_tenants, pipeline_does, pipeline_is, tenant_does, tenant_idles}
use Rattle.gate_core.proofs.world.World.pipeline_step.Goals as goal

pub invariant_of-self-clause-tenants_by_number : goal.invariant_of-self-clause-tenants_by_number
invariant_of-self-clause-tenants_by_number c =
    lent_tenants c.args.self.now.gens.now c.args.self.now.tenants.items c.args.tenant.0 c.in-Some.tenant.now _ c.in-Some.ensures.item.3.0 c.in-Some.ensures.item.1 c.args.self.now.tenants_by_number refl refl

pub returns-in-Some-get_mut-clause-moves : goal.returns-in-Some-get_mut-clause-moves
returns-in-Some-get_mut-clause-moves c =
    let tenants = c.args.self.now.tenants.items in
    let at = lent tenants c.args.tenant.0 _ c.in-Some.ensures.item.3.0 c.in-Some.ensures.item.1 in
    let whose = lent c.in-Some.tenant.now.pipelines.items c.args.pipeline.0 _ c.in-Some-get_mut.ensures.item.3.0 c.in-Some-get_mut.ensures.item.1 in
    pipeline_does c.args.self.now.gens.now c.args.tenant.0 c.args.pipeline.0 (map connection_view c.args.self.now.connections.items) tenants c.args.step c.in-Some.tenant.now _ c.in-Some-get_mut.pipeline.now c.step.new.self c.step.result
    at whose refl (rw c.first.ensures at c.step.ensures.does)

pub returns-in-Some-get_mut-clause-needs : goal.returns-in-Some-get_mut-clause-needs
returns-in-Some-get_mut-clause-needs c =
    let tenants = c.args.self.now.tenants.items in
    let at = lent tenants c.args.tenant.0 _ c.in-Some.ensures.item.3.0 c.in-Some.ensures.item.1 in
    let whose = lent c.in-Some.tenant.now.pipelines.items c.args.pipeline.0 _ c.in-Some-get_mut.ensures.item.3.0 c.in-Some-get_mut.ensures.item.1 in
    subst (λ (o : Option Pipeline). OnErr c.step.result (IsThere (PipelineNeeds c.args.step) o))
    (sym (pipeline_is c.args.self.now.gens.now c.args.tenant.0 c.args.pipeline.0 (map connection_view c.args.self.now.connections.items) tenants c.in-Some.tenant.now at ∙ whose)) c.step.ensures.needs

pub invariant_of-self-in-None-get_mut-clause-tenants_by_number : goal.invariant_of-self-in-None-get_mut-clause-tenants_by_number
invariant_of-self-in-None-get_mut-clause-tenants_by_number c =
    lent_tenants c.args.self.now.gens.now c.args.self.now.tenants.items c.args.tenant.0 c.in-Some.tenant.now _ c.in-Some.ensures.item.3.0 c.in-Some.ensures.item.1 c.args.self.now.tenants_by_number refl refl

pub returns-in-None-get_mut-clause-moves : goal.returns-in-None-get_mut-clause-moves
returns-in-None-get_mut-clause-moves c =
    let tenants = c.args.self.now.tenants.items in
    let at = lent tenants c.args.tenant.0 _ c.in-Some.ensures.item.3.0 c.in-Some.ensures.item.1 in
    let move = pipeline_step c.args.self.now.gens.now.first c.args.step in
    let none = slice_get_past c.in-Some.tenant.now.pipelines.items c.args.pipeline.0 c.in-None-get_mut.ensures.item.3 in
    tenant_does (on_pipeline move c.args.pipeline.0) c.args.tenant.0 (map connection_view c.args.self.now.connections.items) tenants c.in-Some.tenant.now _ (Ok Idle) at
    (sym (ap (λ (o : Option Pipeline). with_pipeline move c.args.pipeline.0 o (tenant_view c.in-Some.tenant.now)) none))

pub returns-in-None-clause-moves : goal.returns-in-None-clause-moves
returns-in-None-clause-moves c =
    let tenants = c.args.self.now.tenants.items in
    tenant_idles (on_pipeline (pipeline_step c.args.self.now.gens.now.first c.args.step) c.args.pipeline.0) c.args.tenant.0 (map connection_view c.args.self.now.connections.items) tenants (slice_get_past tenants c.args.tenant.0 c.in-None.ensures.item.3)
