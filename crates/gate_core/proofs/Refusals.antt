-- A step that is refused memory keeps what holds, and adds nothing to the history.
use Rattle.std.proofs.Common.{◌≡◌, refl, sym, subst, ℕ, List, [], ◌∷◌, Bool, true, false, Option, Some, None, slice_set, if◌then◌else◌}
use Rattle.std.specs.Prelude.{is_some, slice_get}
use Rattle.gate_record.specs.declared.ids.PipelineId.{PipelineId}
use Rattle.gate_record.specs.declared.ids.TenantId.{TenantId}
use Rattle.gate_record.specs.declared.transit.PipelineItem.{PipelineItem}
use Rattle.gate_record.specs.declared.transit.PipelineItem.TheVariants as item
use Rattle.gate_config.specs.declared.config.Config.{Config}
use Rattle.gate_config.specs.declared.generations.Generations.{Generations}
use Rattle.gate_items.specs.declared.action.JobResult.{JobResult}
use Rattle.gate_items.specs.declared.action.Manage.{Manage}
use Rattle.gate_pipeline.specs.declared.pass.Phase.{Phase}
use Rattle.gate_pipeline.specs.declared.pass.Phase.TheVariants as phase
use Rattle.gate_pipeline.specs.declared.which.Held.{Held}
use Rattle.gate_pipeline.specs.declared.which.Taken.TheVariants as taken
use Rattle.gate_pipeline.specs.declared.which.Which.TheVariants as which
use Rattle.gate_pipeline.specs.States.{Processed, held_as, queue_of}
use Rattle.gate_core.specs.declared.pipeline.Pipeline.{Pipeline}
use Rattle.gate_core.specs.declared.step.Step.{Step}
use Rattle.gate_core.specs.History.{History, turn_of}
use Rattle.gate_core.specs.Pipelines.{first_ended, first_managed, first_triggered, found_where, holding, refused, refused_by}
use Rattle.gate_core.specs.States.{State, TenantState}
use Rattle.gate_core.specs.Steps.{refused_in, refused_step, refused_turn_of, with_refused}
use Rattle.gate_core.proofs.AllSteps.{set_same}
use Rattle.gate_core.proofs.Fits.{PipeFits, holds_ended, holds_event, holds_managed}
use Rattle.gate_core.proofs.Streams.{ConnSame, Holds, PipeSame}
use Rattle.gate_core.proofs.Turning.{pipeline_goes}

conn_stays : (c : ℕ) (h : History) → ConnSame c h h
conn_stays c h = record { accepts = refl; closes = refl; puts = refl; takes = refl; renews = refl; entries = refl }

pipe_stays : (t p : ℕ) (h : History) → PipeSame t p h h
pipe_stays t p h = record { turns = refl; finishes = refl; manages = refl; ends = refl }

-- ---- a pipeline whose turn is refused

module _ {config : Config} {t p : ℕ} {given : List (PipelineId × PipelineItem)} {pipe : Pipeline} {ts : List Processed} {fin : Bool} {ms : List Manage} {rs : List JobResult} (fits : PipeFits config t p given pipe ts fin ms rs) where
  abbrev Fits : Pipeline → Type 0
  Fits next = PipeFits config t p given next ts fin ms rs

  managed_refused : (ms : List Manage) → pipe.management ≡ ms → pipe.worker.held ≡ None → Fits (refused_by (first_managed ms pipe) pipe)
  managed_refused [] e free = fits
  managed_refused (m ∷ rest) e free = holds_managed fits m rest e free

  ended_refused : (rs : List JobResult) → pipe.results ≡ rs → pipe.worker.held ≡ None → Fits (refused_by (first_ended rs pipe) pipe)
  ended_refused [] e free = fits
  ended_refused (r ∷ rest) e free = holds_ended fits r rest e free

  triggered_refused : (items : List PipelineItem) → pipe.triggers ≡ items → pipe.worker.held ≡ None → Fits (refused_by (first_triggered items pipe) pipe)
  triggered_refused [] e free = fits
  triggered_refused (item.Event s ∷ rest) e free = holds_event fits s rest e free
  triggered_refused (item.End ∷ rest) e free = fits

  -- what is held stays so
  still_held : (waiting : Option Held) → pipe.worker.held ≡ waiting → Fits (record pipe { worker = held_as waiting pipe.worker })
  still_held waiting e = subst (λ (o : Option Held). Fits (record pipe { worker = held_as o pipe.worker })) e fits

  refused_by_state : (ended : Bool) (waiting : Option Held) (now : Phase) → pipe.worker.held ≡ waiting →
      Fits (refused_by (found_where (if ended then which.Finished else (if is_some waiting then which.Held else queue_of now)) pipe) pipe)
  refused_by_state true waiting now e = fits
  refused_by_state false (Some waits) now e = subst (λ (o : Option Held). Fits (holding o taken.Again pipe pipe)) (sym e) (still_held (Some waits) e)
  refused_by_state false None phase.Management e = managed_refused pipe.management refl e
  refused_by_state false None phase.Result e = ended_refused pipe.results refl e
  refused_by_state false None phase.Trigger e = triggered_refused pipe.triggers refl e

  refused_fits : Fits (refused pipe)
  refused_fits = refused_by_state pipe.worker.finished pipe.worker.held pipe.worker.pass.phase refl

-- ---- a step that is refused

module _ (gens : Generations) (h : History) (state : State) (holds : Holds gens h state) where
  tenant_stays : (t : ℕ) (ten : TenantState) → slice_get state.tenants t ≡ Some ten → Holds gens h (record state { tenants = slice_set state.tenants t ten })
  tenant_stays t ten at = subst (λ (tenants : List TenantState). Holds gens h (record state { tenants = tenants })) (sym (set_same state.tenants t ten at)) holds

  pipe_refused : (tid : TenantId) (pid : PipelineId) (ten : TenantState) → slice_get state.tenants tid.0 ≡ Some ten → (o : Option Pipeline) → slice_get ten.pipelines pid.0 ≡ o →
      Holds gens h (record state { tenants = slice_set state.tenants tid.0 (with_refused pid.0 o ten) })
  pipe_refused tid pid ten at None whose = tenant_stays tid.0 ten at
  pipe_refused tid pid ten at (Some pipe) whose =
      pipeline_goes gens h h state tid pid ten pipe (refused pipe) at whose (λ c. conn_stays c h) (λ t p differ. pipe_stays t p h) holds
      (refused_fits ((holds.tenants tid.0 ten at).pipes pid.0 pipe whose))

  turn_refused : (tid : TenantId) (pid : PipelineId) (o : Option TenantState) → slice_get state.tenants tid.0 ≡ o → Holds gens h (refused_in tid.0 pid.0 o state)
  turn_refused tid pid None at = holds
  turn_refused tid pid (Some ten) at = pipe_refused tid pid ten at (slice_get ten.pipelines pid.0) refl

  refused_turn : (at : Option (TenantId × PipelineId)) → Holds gens h (refused_turn_of at state)
  refused_turn None = holds
  refused_turn (Some (tid, pid)) = turn_refused tid pid (slice_get state.tenants tid.0) refl

-- what holds, holds where a step is refused memory
pub refused_holds : (gens : Generations) (h : History) (state : State) (s : Step) → Holds gens h state → Holds gens h (refused_step state s)
refused_holds gens h state s holds = refused_turn gens h state holds (turn_of s)
