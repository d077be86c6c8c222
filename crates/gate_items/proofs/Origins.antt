-- Where each item comes from.
use Rattle.std.proofs.Common.{◌≡◌, ◌+◌, ◌≤◌, ℕ, ℤ, List, [], ◌∷◌, ◌++◌, Bool, true, false, cond, Option, Some, None, map, refl, inl, inr, nat_lt, arith}
use Rattle.std.specs.Prelude.{int_lt, ◌^◌}
use Rattle.std.specs.List.{find}
use Rattle.std.specs.Ordering.{int_eq}
use Rattle.gate_record.specs.declared.ids.ManagerKind.{ManagerKind}
use Rattle.gate_record.specs.declared.ids.ManagerKind.TheVariants.{Independent, Dependent}
use Rattle.gate_items.specs.declared.action.Action.{Action}
use Rattle.gate_items.specs.declared.action.Action.TheVariants as action
use Rattle.gate_items.specs.declared.action.Manage.TheVariants as manage
use Rattle.gate_items.specs.declared.action.JobResult.{JobResult}
use Rattle.gate_items.specs.declared.action.Discard.TheVariants.{Numbers}
use Rattle.gate_items.specs.declared.action.Outcome.{Outcome}
use Rattle.gate_items.specs.declared.action.Outcome.TheVariants.{Applied, Discarded}
use Rattle.gate_items.specs.declared.item.QueueItem.{QueueItem}
use Rattle.gate_items.specs.declared.key.Key.{Key}
use Rattle.gate_items.proofs.Each.{Each, each_append, each_at, each_before, each_behind, each_found, each_from, each_staying}
use Rattle.gate_items.specs.History.{EachIsOldOrNew, IsOldOrNew}
use Rattle.gate_items.specs.Machine.{Plan, Refuses, Makes, State, after_plan, apply, before, behind, behind_it, dequeued, ended, has_set, is_first_failure, is_job, is_of, leaving, new_item, placing, plan, renewed, report_of, reset, resulted, sets_behind, staying, triggered}

module _ (s : State) where
  abbrev Old : QueueItem → Type 0
  Old item = IsOldOrNew s item

  abbrev AreOld : Plan → Type 0
  AreOld (Refuses why) = Unit {0}
  AreOld (Makes items sets) = Each Old items

  either : (b : Bool) (p q : Plan) → AreOld p → AreOld q → AreOld (cond b p q)
  either true p q h k = h
  either false p q h k = k

  themselves : Each Old s.items
  themselves = each_from Old s.items (λ i item e. inl (i, item, e, (refl, refl, refl)))

  renewed_ones : (k : ℕ) → s.next ≤ k → (items : List QueueItem) → Each Old (renewed k items)
  renewed_ones k le [] = tt
  renewed_ones k le (item ∷ items) = (inr le, renewed_ones (k + 1) (omega (arith, le)) items)

  those_behind : (m : ManagerKind) (k : ℕ) → s.next ≤ k → (test : QueueItem → Bool) → Each Old (behind_it m k (behind test s.items))
  those_behind Independent k le test = each_behind Old test s.items themselves
  those_behind Dependent k le test = renewed_ones k le (behind test s.items)

  of_placing : (key : Key) (patchset : ℤ) (jobs : List (List ℕ)) (o : Option QueueItem) → AreOld (placing s key patchset jobs o)
  of_placing key patchset jobs None = each_append Old s.items (new_item key patchset s.next jobs ∷ []) themselves (inr (omega arith), tt)
  of_placing key patchset jobs (Some item) =
      let others = each_append Old (before (is_of key) s.items) (behind_it s.manager s.next (behind (is_of key) s.items)) (each_before Old (is_of key) s.items themselves) (those_behind s.manager s.next (omega arith) (is_of key)) in
      let last = new_item key patchset (s.next + sets_behind s.manager (behind (is_of key) s.items)) jobs in
      let replaced = each_append Old (before (is_of key) s.items ++ behind_it s.manager s.next (behind (is_of key) s.items)) (last ∷ []) others (inr (omega arith), tt) in
      either (int_eq patchset item.patchset) _ _ tt (either (int_lt patchset item.patchset) _ _ tt replaced)

  of_trigger : (key : Option Key) (patchset : ℤ) (jobs : List (List ℕ)) → AreOld (triggered s key patchset jobs)
  of_trigger None patchset jobs = tt
  of_trigger (Some key) patchset [] = tt
  of_trigger (Some key) patchset (job ∷ jobs) = of_placing key patchset (job ∷ jobs) (find (is_of key) s.items)

  of_job : (result : JobResult) (item : QueueItem) (o : Option (List ℕ × Option Bool)) → Old item → AreOld (ended s result item o)
  of_job result item None old = tt
  of_job result item (Some (name, Some success)) old = tt
  of_job result item (Some (name, None)) old =
      let test : QueueItem → Bool = has_set result.set in
      either (is_first_failure result.success item) _ _
      (each_append Old (before test s.items) _ (each_before Old test s.items themselves) (old, those_behind s.manager s.next (omega arith) test))
      (each_append Old (before test s.items) _ (each_before Old test s.items themselves) (old, each_behind Old test s.items themselves))

  of_result : (result : JobResult) (o : Option QueueItem) → find (has_set result.set) s.items ≡ o → AreOld (resulted s result o)
  of_result result None e = tt
  of_result result (Some item) e = of_job result item (find (is_job result.job) item.jobs) (each_found Old (has_set result.set) s.items item themselves e)

  of_dequeue : (key : Key) (o : Option QueueItem) → AreOld (dequeued s key o)
  of_dequeue key None = tt
  of_dequeue key (Some item) = each_append Old (before (is_of key) s.items) _ (each_before Old (is_of key) s.items themselves) (those_behind s.manager s.next (omega arith) (is_of key))

  of_reset : (key : Key) (o : Option QueueItem) → AreOld (reset s key o)
  of_reset key None = tt
  of_reset key (Some item) =
      each_append Old (before (is_of key) s.items) _ (each_before Old (is_of key) s.items themselves) (inr (omega arith), those_behind s.manager (s.next + 1) (omega arith) (is_of key))

  of_plan : (action : Action) → AreOld (plan s action)
  of_plan (action.Trigger key patchset jobs) = of_trigger key patchset jobs
  of_plan (action.Result result) = of_result result (find (has_set result.set) s.items) refl
  of_plan (action.Manage (manage.Dequeue key)) = of_dequeue key (find (is_of key) s.items)
  of_plan (action.Manage (manage.Reset key)) = of_reset key (find (is_of key) s.items)

  abbrev made : List QueueItem → ℕ → State
  made items sets = record { manager = s.manager; next = s.next + sets; items = staying s.manager items; reported = s.reported ++ map report_of (leaving s.manager items) }

  left_by : (items : List QueueItem) (sets : ℕ) → Each Old items → (b : Bool) → Each Old (cond {A = State × Outcome} b (made items sets, Applied) (s, Discarded Numbers)).0.items
  left_by items sets h true = each_staying Old s.manager items h
  left_by items sets h false = themselves

  left : (p : Plan) → AreOld p → Each Old (after_plan s p).0.items
  left (Refuses why) h = themselves
  left (Makes items sets) h = left_by items sets h (nat_lt (s.next + sets) (2 ^ 64))

pub each_is_old_or_new : EachIsOldOrNew
each_is_old_or_new s action place item e = each_at (IsOldOrNew s) (apply s action).0.items place item (left s (plan s action) (of_plan s action)) e
