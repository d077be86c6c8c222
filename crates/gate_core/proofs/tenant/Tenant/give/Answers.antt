use Rattle.std.proofs.Common.{◌∙◌, ap, sym, subst, List, None, slice_set}
use Rattle.gate_record.specs.declared.ids.PipelineId.{PipelineId}
use Rattle.gate_record.specs.declared.transit.PipelineItem.{PipelineItem}
use Rattle.gate_record.proofs.Outboxes.{is_out}
use Rattle.gate_record.specs.Outboxes.{put_back}
use Rattle.gate_tenant.specs.States.{State as DispatchState, state_of}
use Rattle.gate_core.specs.declared.answer.Answer.{Answer}
use Rattle.gate_core.specs.declared.answer.Answer.TheVariants.{Moved}
use Rattle.gate_core.specs.Answers.{Changes}
use Rattle.gate_core.specs.States.{TenantState}
use Rattle.gate_core.specs.declared.pipeline.Pipeline.{Pipeline}
use Rattle.gate_core.specs.Views.{tenant_view}
use Rattle.gate_core.proofs.Elements.{lent, written_back}
use Rattle.gate_core.proofs.Tenants.{back_in, gives, went}
use Rattle.gate_core.proofs.tenant.Tenant.give.Goals as goal

pub returns-in-Ok-clause-does : goal.returns-in-Ok-clause-does
returns-in-Ok-clause-does c =
    let tenant = tenant_view c.args.self.now in
    let new = state_of c.next.new.self in
    let first : PipelineId × PipelineItem = (c.in-Some.pipeline, c.in-Some.item) in
    let p = first.0.0 in
    let pipeline = c.in-Some-get_mut.pipeline.now in
    let item = c.in-Some-get_mut.ensures.item in
    let given = gives tenant new first (is_out tenant.dispatch.outbox new.outbox first c.in-Some.ensures.moves) pipeline (lent tenant.pipelines p pipeline item.3.0 item.1) in
    ap (λ (d : DispatchState). (record tenant { dispatch = d; pipelines = slice_set tenant.pipelines p (record pipeline { triggers = c.push.new.self }) }, Moved)) (c.given.ensures.closes ∙ went tenant.dispatch new c.in-Some.ensures.rest)
    ∙ ap (λ queue. (record tenant { dispatch = record tenant.dispatch { outbox = record { items = new.outbox.items; out = None } }; pipelines = slice_set tenant.pipelines p (record pipeline { triggers = queue }) }, Moved)) c.in-Ok.ensures
    ∙ sym given

pub returns-in-Err-clause-does : goal.returns-in-Err-clause-does
returns-in-Err-clause-does c =
    let tenant = tenant_view c.args.self.now in
    let new = state_of c.next.new.self in
    let first : PipelineId × PipelineItem = (c.in-Some.pipeline, c.in-Some.item) in
    let pipeline = c.in-Some-get_mut.pipeline.now in
    let p = first.0.0 in
    let out = is_out tenant.dispatch.outbox new.outbox first c.in-Some.ensures.moves in
    let item = c.in-Some-get_mut.ensures.item in
    let at = lent tenant.pipelines p pipeline item.3.0 item.1 in
    let dispatch_as_before = back_in tenant.dispatch new _ first c.in-Some.ensures.rest c.args.self.now.none_out out (c.ungiven-in-Err.ensures.fills ∙ ap (λ back. record new { outbox = put_back back new.outbox.out new.outbox }) c.in-Err.ensures.1) in (
      ap (λ (d : DispatchState). record tenant { dispatch = d; pipelines = slice_set tenant.pipelines p (record pipeline { triggers = c.push.new.self }) }) dispatch_as_before
          ∙ ap (λ queue. record tenant { pipelines = slice_set tenant.pipelines p (record pipeline { triggers = queue }) }) c.in-Err.ensures.0
          ∙ ap (λ (ps : List Pipeline). record tenant { pipelines = ps }) (written_back tenant.pipelines p pipeline at),
      subst (λ (after : TenantState × Answer). Changes after.1) (sym (gives tenant new first out pipeline at)) tt,
    )
