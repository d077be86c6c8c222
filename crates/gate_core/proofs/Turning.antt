-- A turn of a pipeline, and a post to one, keep what holds.
use Rattle.std.proofs.Common.{◌≡◌, ◌∙◌, refl, sym, ap, subst, ℕ, ◌==◌, List, [], ◌∷◌, ◌++◌, Bool, true, false, Option, Some, None, cond, slice_set, append-nil, eqb-true}
use Rattle.std.specs.Prelude.{◌&&◌, ◌||◌, slice_get, is_some}
use Rattle.std.specs.Option.{option_to_list}
use Rattle.std.proofs.lemmas.List.{length-set}
use Rattle.gate_record.specs.declared.ids.PipelineId.{PipelineId}
use Rattle.gate_record.specs.declared.ids.TenantId.{TenantId}
use Rattle.gate_record.specs.declared.transit.PipelineItem.{PipelineItem}
use Rattle.gate_config.specs.declared.generations.Generations.{Generations}
use Rattle.gate_forward.specs.Forwarding.{forwarded}
use Rattle.gate_items.specs.declared.action.JobResult.{JobResult}
use Rattle.gate_items.specs.declared.action.Manage.{Manage}
use Rattle.gate_core.specs.declared.answer.Answer.{Answer}
use Rattle.gate_core.specs.declared.answer.Answer.TheVariants.{Moved}
use Rattle.gate_core.specs.declared.pipeline.Pipeline.{Pipeline}
use Rattle.gate_core.specs.declared.step.Step.TheVariants as step
use Rattle.gate_core.specs.History.{History, finished, is_moved, manage_posts, processed_of, result_posts, processed_by}
use Rattle.gate_core.specs.States.{TenantState, State}
use Rattle.gate_delivery.proofs.Arrivals.{same_as_itself}
use Rattle.gate_core.proofs.Fits.{PipeFits, fits_same}
use Rattle.gate_core.proofs.Pushes.{cond_none, ended_push, finished_push, managed_push, or_false, turned_push}
use Rattle.gate_core.proofs.Spots.{AfterSet, after_set, another, it}
use Rattle.gate_core.proofs.Streams.{ConnSame, Holds, PipeHolds, PipeSame, pipe_same, put_same}
use Rattle.gate_core.proofs.Working.{none_before, tenant_goes_on}
use Rattle.gate_delivery.proofs.Maps.{the_same}

not_both : (i j k l : ℕ) (x y : Bool) → (i == j) ≡ x → (k == l) ≡ y → ((i ≡ j) × (k ≡ l) → ⊥) → (x && y) ≡ false
not_both i j k l true true e f no_such = absurd (no_such (eqb-true i j e, eqb-true k l f))
not_both i j k l true false e f no_such = refl
not_both i j k l false y e f no_such = refl

-- another pipeline than this one
pub another_one : (tid : TenantId) (pid : PipelineId) (t p : ℕ) → ((tid.0 ≡ t) × (pid.0 ≡ p) → ⊥) → ((tid.0 == t) && (pid.0 == p)) ≡ false
another_one tid pid t p differ = not_both tid.0 t pid.0 p (tid.0 == t) (pid.0 == p) refl refl differ

-- this one
pub this_one : (tid : TenantId) (pid : PipelineId) → ((tid.0 == tid.0) && (pid.0 == pid.0)) ≡ true
this_one tid pid = λ i. same_as_itself tid.0 i && same_as_itself pid.0 i

-- one pipeline changes, and the later history is about no other
module _ (gens : Generations) (h later : History) (state : State) (tid : TenantId) (pid : PipelineId) (ten : TenantState) (pipe pipe' : Pipeline) (at : slice_get state.tenants tid.0 ≡ Some ten) (whose : slice_get ten.pipelines pid.0 ≡ Some pipe)
    (conns_stay : (c : ℕ) → ConnSame c h later) (others_stay : (t p : ℕ) → ((tid.0 ≡ t) × (pid.0 ≡ p) → ⊥) → PipeSame t p h later) where
  tenants_stay : (t p : ℕ) → (tid.0 ≡ t → ⊥) → PipeSame t p h later
  tenants_stay t p differ = others_stay t p (λ both. differ both.0)

  pipes_stay : (p : ℕ) → (pid.0 ≡ p → ⊥) → PipeSame tid.0 p h later
  pipes_stay p differ = others_stay tid.0 p (λ both. differ both.1)

  pipe_goes : (given : List (PipelineId × PipelineItem)) (p : ℕ) (found : Pipeline) → AfterSet ten.pipelines pid.0 pipe' p → slice_get (slice_set ten.pipelines pid.0 pipe') p ≡ Some found →
      PipeHolds gens.first later tid.0 pid.0 given pipe' → ((q : ℕ) (old : Pipeline) → slice_get ten.pipelines q ≡ Some old → PipeHolds gens.first h tid.0 q given old) → PipeHolds gens.first later tid.0 p given found
  pipe_goes given p found (it e g) there new holds =
      subst (PipeHolds gens.first later tid.0 p given) (the_same pipe' found (sym g ∙ there)) (subst (λ n. PipeHolds gens.first later tid.0 n given pipe') e new)
  pipe_goes given p found (another differ g) there new holds = pipe_same gens h later tid.0 p given found (pipes_stay p differ) (holds p found (sym g ∙ there))

  none_goes : (p : ℕ) → AfterSet ten.pipelines pid.0 pipe' p → is_some (slice_get (slice_set ten.pipelines pid.0 pipe') p) ≡ false →
      ((q : ℕ) → is_some (slice_get ten.pipelines q) ≡ false → (processed_by tid.0 q h ≡ []) × (finished tid.0 q h ≡ false)) → (processed_by tid.0 p later ≡ []) × (finished tid.0 p later ≡ false)
  none_goes p (it e g) none before = absurd (cc)
  none_goes p (another differ g) none before =
      let old = before p (subst (λ o. is_some o ≡ false) g none) in
      ((pipes_stay p differ).turns ∙ old.0, (pipes_stay p differ).finishes ∙ old.1)

  pub pipeline_goes : (holds : Holds gens h state) → PipeHolds gens.first later tid.0 pid.0 (holds.tenants tid.0 ten at).past.given pipe' →
      Holds gens later (record state { tenants = slice_set state.tenants tid.0 (record ten { pipelines = slice_set ten.pipelines pid.0 pipe' }) })
  pipeline_goes holds new =
      let old = holds.tenants tid.0 ten at in
      tenant_goes_on gens h later state tid.0 ten (record ten { pipelines = slice_set ten.pipelines pid.0 pipe' }) at conns_stay tenants_stay
      (record {
        past = old.past;
        happens = old.happens;
        now = old.now;
        none_out = old.none_out;
        count = length-set ten.pipelines pid.0 pipe' ∙ old.count;
        pipes = λ p found there. pipe_goes old.past.given p found (after_set ten.pipelines pid.0 p pipe pipe' whose) there new old.pipes;
        ways = λ c. old.ways c ∙ ap (forwarded gens tid.0 c) (put_same c h later (conns_stay c));
      })
      (λ q none. none_goes q (after_set ten.pipelines pid.0 q pipe pipe' whose) none (none_before gens h state tid.0 ten at holds)) holds

-- ---- what a turn, or a post, adds to what a history says of its pipeline

module _ (gens : Generations) (h : History) (tid : TenantId) (pid : PipelineId) (a : Answer) (given : List (PipelineId × PipelineItem)) (pipe : Pipeline) where
  abbrev t : ℕ
  t = tid.0

  abbrev p : ℕ
  p = pid.0

  -- a turn
  pub turn_fits : PipeFits gens.first t p given pipe (processed_by t p h ++ option_to_list (processed_of a)) (finished t p h || is_moved a) (manage_posts t p h) (result_posts t p h) → PipeHolds gens.first (h ++ (step.Turn tid pid, a) ∷ []) t p given pipe
  turn_fits fits =
      fits_same
      (sym (turned_push t p h (step.Turn tid pid, a) ∙ ap (λ b. processed_by t p h ++ option_to_list (cond b (processed_of a) None)) (this_one tid pid)))
      (sym (finished_push t p h (step.Turn tid pid, a) ∙ ap (λ b. finished t p h || ((b && is_moved a) || false)) (this_one tid pid) ∙ ap (λ b. finished t p h || b) (or_false (is_moved a))))
      (sym (managed_push t p h (step.Turn tid pid, a) ∙ ap (λ (o : Option Manage). manage_posts t p h ++ option_to_list o) (cond_none (is_moved a)) ∙ append-nil (manage_posts t p h)))
      (sym (ended_push t p h (step.Turn tid pid, a) ∙ ap (λ (o : Option JobResult). result_posts t p h ++ option_to_list o) (cond_none (is_moved a)) ∙ append-nil (result_posts t p h)))
      fits

  -- a management event that was put
  pub manage_fits : (m : Manage) → PipeFits gens.first t p given pipe (processed_by t p h) (finished t p h) (manage_posts t p h ++ m ∷ []) (result_posts t p h) → PipeHolds gens.first (h ++ (step.PostManage tid pid m, Moved) ∷ []) t p given pipe
  manage_fits m fits =
      fits_same
      (sym (turned_push t p h (step.PostManage tid pid m, Moved) ∙ append-nil (processed_by t p h)))
      (sym (finished_push t p h (step.PostManage tid pid m, Moved) ∙ or_false (finished t p h)))
      (sym (managed_push t p h (step.PostManage tid pid m, Moved) ∙ ap (λ b. manage_posts t p h ++ option_to_list (cond b (Some m) None)) (this_one tid pid)))
      (sym (ended_push t p h (step.PostManage tid pid m, Moved) ∙ append-nil (result_posts t p h)))
      fits

  -- a result that was put
  pub result_fits : (r : JobResult) → PipeFits gens.first t p given pipe (processed_by t p h) (finished t p h) (manage_posts t p h) (result_posts t p h ++ r ∷ []) → PipeHolds gens.first (h ++ (step.PostResult tid pid r, Moved) ∷ []) t p given pipe
  result_fits r fits =
      fits_same
      (sym (turned_push t p h (step.PostResult tid pid r, Moved) ∙ append-nil (processed_by t p h)))
      (sym (finished_push t p h (step.PostResult tid pid r, Moved) ∙ or_false (finished t p h)))
      (sym (managed_push t p h (step.PostResult tid pid r, Moved) ∙ append-nil (manage_posts t p h)))
      (sym (ended_push t p h (step.PostResult tid pid r, Moved) ∙ ap (λ b. result_posts t p h ++ option_to_list (cond b (Some r) None)) (this_one tid pid)))
      fits
