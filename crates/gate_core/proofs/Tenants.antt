-- Steps of a tenant at work, by what its dispatch and one of its pipelines do.
use Rattle.std.proofs.Common.{◌≡◌, ◌∙◌, sym, ap, subst, ℕ, ◌+◌, ◌-◌, ◌≤◌, ◌==◌, List, ◌++◌, Bool, true, false, length, take, drop, Some, None, Result, Ok, Err, slice_set, append-nil, append_assoc, arith, if◌then◌else◌}
use Rattle.std.specs.Prelude.{slice_get}
use Rattle.std.proofs.Math.Seq.{take-add}
use Rattle.std.proofs.lemmas.List.{drop-drop, length-append}
use Rattle.gate_record.specs.declared.transit.TenantItem.{TenantItem}
use Rattle.gate_tenant.specs.Limits.{most_gathered}
use Rattle.gate_record.specs.declared.memory.Memory.{Memory}
use Rattle.gate_record.specs.declared.ids.PipelineId.{PipelineId}
use Rattle.gate_record.specs.declared.transit.PipelineItem.{PipelineItem}
use Rattle.gate_record.proofs.Outboxes.{IsOut, came_back}
use Rattle.gate_record.specs.Outboxes.{Unsent, put_back}
use Rattle.gate_tenant.specs.States.{State as DispatchState, room_of}
use Rattle.gate_config.specs.declared.config.Config.{Config}
use Rattle.gate_core.specs.Inner.Steps.{with_pipeline}
use Rattle.gate_core.specs.declared.answer.Answer.{Answer}
use Rattle.gate_core.specs.declared.answer.Answer.TheVariants.{Moved}
use Rattle.gate_core.specs.declared.pipeline.Pipeline.{Pipeline}
use Rattle.gate_core.specs.Answers.{Does, Changes}
use Rattle.gate_core.specs.Pipelines.{refused, turned}
use Rattle.gate_core.specs.States.{TenantState, with_gathered}
use Rattle.gate_core.specs.Steps.{give, give_from, give_to, on_pipeline, refused_turn, with_item, with_refused}
use Rattle.gate_core.proofs.Elements.{written_back}

abbrev with_pipelines : TenantState → List Pipeline → TenantState
with_pipelines tenant pipelines = record tenant { pipelines = pipelines }

-- a post to the pipeline that is looked up
pub posts : (move : Pipeline → Pipeline × Answer) (p : ℕ) (tenant : TenantState) (pipeline new : Pipeline) (result : Result Answer Memory) → slice_get tenant.pipelines p ≡ Some pipeline → Does pipeline (move pipeline) new result →
    Does tenant (on_pipeline move p tenant) (record tenant { pipelines = slice_set tenant.pipelines p new }) result
posts move p tenant pipeline new (Ok answer) e does =
    ap (λ (after : Pipeline × Answer). (with_pipelines tenant (slice_set tenant.pipelines p after.0), after.1)) does ∙ sym (ap (λ o. with_pipeline move p o tenant) e)
posts move p tenant pipeline new (Err memory) e does = (
  ap (λ x. with_pipelines tenant (slice_set tenant.pipelines p x)) does.0 ∙ ap (with_pipelines tenant) (written_back tenant.pipelines p pipeline e),
  subst Changes (sym (ap (λ o. (with_pipeline move p o tenant).1) e)) does.1,
)

-- a turn of it
pub turns : (config : Config) (p : ℕ) (tenant : TenantState) (pipeline new : Pipeline) (result : Result Answer Memory) → slice_get tenant.pipelines p ≡ Some pipeline → Does (refused pipeline) (turned config pipeline) new result →
    Does (refused_turn p tenant) (on_pipeline (turned config) p tenant) (record tenant { pipelines = slice_set tenant.pipelines p new }) result
turns config p tenant pipeline new (Ok answer) e does =
    ap (λ (after : Pipeline × Answer). (with_pipelines tenant (slice_set tenant.pipelines p after.0), after.1)) does ∙ sym (ap (λ o. with_pipeline (turned config) p o tenant) e)
turns config p tenant pipeline new (Err memory) e does = (
  ap (λ x. with_pipelines tenant (slice_set tenant.pipelines p x)) does.0 ∙ sym (ap (λ o. with_refused p o tenant) e),
  subst Changes (sym (ap (λ o. (with_pipeline (turned config) p o tenant).1) e)) does.1,
)

-- ---- items are gathered

-- none
pub none_gathered : (tenant : TenantState) → tenant ≡ with_gathered 0 tenant
none_gathered tenant = ap (λ items. record tenant { dispatch = record tenant.dispatch { gathered = items } }) (sym (append-nil tenant.dispatch.gathered))

-- one more
pub one_more : (n : ℕ) (tenant : TenantState) → with_gathered 1 (with_gathered n tenant) ≡ with_gathered (n + 1) tenant
one_more n tenant =
    let gathered = append_assoc tenant.dispatch.gathered (take n tenant.queue) (take 1 (drop n tenant.queue)) ∙ ap (λ items. tenant.dispatch.gathered ++ items) (sym (take-add n 1 tenant.queue)) in
    λ i. record tenant { queue = drop-drop 1 n tenant.queue i; dispatch = record tenant.dispatch { gathered = gathered i } }

-- these leave room for so many others
pub room_after : (dispatch : DispatchState) (items : List TenantItem) (n : ℕ) → length items + n ≤ room_of dispatch → n ≤ room_of (record dispatch { gathered = dispatch.gathered ++ items })
room_after dispatch items n room = by (length dispatch.outbox.items == 0) room
  where
    more : length (dispatch.gathered ++ items) ≡ length dispatch.gathered + length items
    more = length-append dispatch.gathered items

    by : (empty : Bool) → length items + n ≤ (if empty then most_gathered - length dispatch.gathered else 0) → n ≤ (if empty then most_gathered - length (dispatch.gathered ++ items) else 0)
    by true room' = omega (arith, more, room')
    by false room' = omega (arith, room')

-- the item that went out and came back leaves the dispatch as it was
pub back_in : (old new back : DispatchState) (first : PipelineId × PipelineItem) → new ≡ record old { outbox = new.outbox } → old.outbox.out ≡ None → IsOut old.outbox new.outbox first →
    back ≡ record new { outbox = put_back first.1 new.outbox.out new.outbox } → back ≡ old
back_in old new back first rest none out fills =
    fills ∙ ap (λ (outbox : Unsent PipelineId PipelineItem). record new { outbox = outbox }) (came_back old.outbox new.outbox first none out)
    ∙ ap (λ (state : DispatchState). record state { outbox = old.outbox }) rest

-- and where it was given, it is gone
pub went : (old new : DispatchState) → new ≡ record old { outbox = new.outbox } → record new { outbox = record new.outbox { out = None } } ≡ record old { outbox = record { items = new.outbox.items; out = None } }
went old new rest = ap (λ (state : DispatchState). record state { outbox = record { items = new.outbox.items; out = None } }) rest

module _ (tenant : TenantState) (new : DispatchState) (first : PipelineId × PipelineItem) (out : IsOut tenant.dispatch.outbox new.outbox first)
    (pipeline : Pipeline) (at : slice_get tenant.pipelines first.0.0 ≡ Some pipeline) where
  -- the pipeline gets it
  pub gives : give tenant ≡ (record tenant { dispatch = record tenant.dispatch { outbox = record { items = new.outbox.items; out = None } }; pipelines = slice_set tenant.pipelines first.0.0 (with_item pipeline first.1) }, Moved)
  gives = ap (λ xs. give_from xs tenant) out.items ∙ ap (λ o. give_to first.0 first.1 new.outbox.items o tenant) at
