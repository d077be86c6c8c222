-- Items that an action makes have jobs, and those that are complete had their build sets before.
use Rattle.std.proofs.Common.{◌≡◌, ◌+◌, ◌<◌, ◌≤◌, ℕ, ℤ, List, [], ◌∷◌, ◌++◌, Bool, true, false, cond, Option, Some, None, length, map, nat_lt, refl, ap, arith}
use Rattle.std.specs.Prelude.{int_lt}
use Rattle.std.specs.List.{find, list_all}
use Rattle.std.specs.Ordering.{int_eq}
use Rattle.std.proofs.lemmas.Bool.{eq-eqb, ltb-true, ltb-false}
use Rattle.gate_record.specs.declared.ids.ManagerKind.{ManagerKind}
use Rattle.gate_record.specs.declared.ids.ManagerKind.TheVariants.{Independent, Dependent}
use Rattle.gate_items.specs.declared.action.Action.{Action}
use Rattle.gate_items.specs.declared.action.Action.TheVariants as action
use Rattle.gate_items.specs.declared.action.Manage.TheVariants as manage
use Rattle.gate_items.specs.declared.action.JobResult.{JobResult}
use Rattle.gate_items.specs.declared.item.QueueItem.{QueueItem}
use Rattle.gate_items.specs.declared.key.Key.{Key}
use Rattle.gate_items.specs.Machine.{Plan, Refuses, Makes, State, before, behind, behind_it, dequeued, ended, has_ended, has_set, is_complete, is_first_failure, is_job, is_of, new_item, open_job, placing, plan, record_at, renewed, reset, resulted, sets_behind, triggered, with_outcome, with_set}
use Rattle.gate_items.proofs.Each.{Each, each_append, each_before, each_behind, each_found, each_map}
use Rattle.gate_items.proofs.Sound.{Sound}
use Rattle.gate_items.proofs.Times.{bit, once, times}

abbrev pub HasJobs : QueueItem → Type 0
HasJobs item = 0 < length item.jobs

-- an item that stood there: its build set was handed out
abbrev Stood : ℕ → QueueItem → Type 0
Stood next item = (0 < length item.jobs) × (item.set < next)

-- an item that is made: where it is complete, its build set was handed out before
abbrev pub Fits : ℕ → QueueItem → Type 0
Fits next item = (0 < length item.jobs) × (is_complete item ≡ true → item.set < next)

-- ---- jobs without an outcome

length_map : {X Y : Type 0} (f : X → Y) (xs : List X) → length (map f xs) ≡ length xs
length_map f [] = refl
length_map f (x ∷ xs) = let rest : length (map f xs) ≡ length xs = length_map f xs in omega (arith, rest)

pub opened_wait : (jobs : List (List ℕ × Option Bool)) → 0 < length jobs → list_all has_ended (map open_job jobs) ≡ true → ⊥
opened_wait [] some complete = omega (arith, some)
opened_wait (job ∷ jobs) some complete = cc

pub named_wait : (names : List (List ℕ)) → 0 < length names → list_all has_ended (map (λ name. (name, None)) names) ≡ true → ⊥
named_wait [] some complete = omega (arith, some)
named_wait (name ∷ names) some complete = cc

-- ---- what stood there

one_of : (n : ℕ) → once n n ≡ 1
one_of n = ap bit (eq-eqb n n refl)

handed : (next : ℕ) (items : List QueueItem) → ((n : ℕ) → next ≤ n → times n items ≡ 0) → Each HasJobs items → Each (Stood next) items
handed next [] none jobs = tt
handed next (item ∷ items) none jobs = ((jobs.0, by (nat_lt item.set next) (ltb-true item.set next) (ltb-false item.set next)), handed next items (λ n h. omega (arith, none n h)) jobs.1)
  where
    by : (b : Bool) → (b ≡ true → item.set < next) → (b ≡ false → next ≤ item.set) → item.set < next
    by true below above = below refl
    by false below above = absurd (omega (arith, none item.set (above refl), one_of item.set))

-- ---- what a plan makes of it

abbrev pub FitsPlan : ℕ → Plan → Type 0
FitsPlan next (Refuses why) = Unit {0}
FitsPlan next (Makes items sets) = Each (Fits next) items

module _ (s : State) (stood : Each (Stood s.next) s.items) where
  either : (b : Bool) (p q : Plan) → FitsPlan s.next p → FitsPlan s.next q → FitsPlan s.next (cond b p q)
  either true p q h k = h
  either false p q h k = k

  old_fits : (item : QueueItem) → Stood s.next item → Fits s.next item
  old_fits item h = (h.0, λ complete. h.1)

  themselves : Each (Fits s.next) s.items
  themselves = each_map (Stood s.next) (Fits s.next) old_fits s.items stood

  with_set_fits : (k : ℕ) (item : QueueItem) → 0 < length item.jobs → Fits s.next (with_set k item)
  with_set_fits k item some = (omega (arith, some, length_map open_job item.jobs), λ complete. absurd (opened_wait item.jobs some complete))

  new_fits : (key : Key) (patchset : ℤ) (set : ℕ) (jobs : List (List ℕ)) → 0 < length jobs → Fits s.next (new_item key patchset set jobs)
  new_fits key patchset set jobs some = (omega (arith, some, length_map {Y = List ℕ × Option Bool} (λ name. (name, None)) jobs), λ complete. absurd (named_wait jobs some complete))

  renewed_fit : (k : ℕ) (items : List QueueItem) → Each (Stood s.next) items → Each (Fits s.next) (renewed k items)
  renewed_fit k [] h = tt
  renewed_fit k (item ∷ items) h = (with_set_fits k item h.0.0, renewed_fit (k + 1) items h.1)

  ahead_fit : (test : QueueItem → Bool) → Each (Fits s.next) (before test s.items)
  ahead_fit test = each_before (Fits s.next) test s.items themselves

  rest_fits : (m : ManagerKind) (k : ℕ) (test : QueueItem → Bool) → Each (Fits s.next) (behind_it m k (behind test s.items))
  rest_fits Independent k test = each_behind (Fits s.next) test s.items themselves
  rest_fits Dependent k test = renewed_fit k (behind test s.items) (each_behind (Stood s.next) test s.items stood)

  of_placing : (key : Key) (patchset : ℤ) (jobs : List (List ℕ)) → 0 < length jobs → (o : Option QueueItem) → FitsPlan s.next (placing s key patchset jobs o)
  of_placing key patchset jobs some None = each_append (Fits s.next) s.items (new_item key patchset s.next jobs ∷ []) themselves (new_fits key patchset s.next jobs some, tt)
  of_placing key patchset jobs some (Some item) =
      let set = s.next + sets_behind s.manager (behind (is_of key) s.items) in
      let others = each_append (Fits s.next) (before (is_of key) s.items) (behind_it s.manager s.next (behind (is_of key) s.items)) (ahead_fit (is_of key)) (rest_fits s.manager s.next (is_of key)) in
      let replaced = each_append (Fits s.next) (before (is_of key) s.items ++ behind_it s.manager s.next (behind (is_of key) s.items)) (new_item key patchset set jobs ∷ []) others (new_fits key patchset set jobs some, tt) in
      either (int_eq patchset item.patchset) _ _ tt (either (int_lt patchset item.patchset) _ _ tt replaced)

  of_trigger : (key : Option Key) (patchset : ℤ) (jobs : List (List ℕ)) → FitsPlan s.next (triggered s key patchset jobs)
  of_trigger None patchset jobs = tt
  of_trigger (Some key) patchset [] = tt
  of_trigger (Some key) patchset (job ∷ jobs) = of_placing key patchset (job ∷ jobs) (omega arith) (find (is_of key) s.items)

  outcome_fits : (result : JobResult) (item : QueueItem) → Stood s.next item → Fits s.next (with_outcome result.job result.success item)
  outcome_fits result item h = (omega (arith, h.0, length_map (record_at result.job result.success) item.jobs), λ complete. h.1)

  of_job : (result : JobResult) (item : QueueItem) (o : Option (List ℕ × Option Bool)) → Stood s.next item → FitsPlan s.next (ended s result item o)
  of_job result item None h = tt
  of_job result item (Some (name, Some success)) h = tt
  of_job result item (Some (name, None)) h =
      let test : QueueItem → Bool = has_set result.set in
      either (is_first_failure result.success item) _ _
      (each_append (Fits s.next) (before test s.items) _ (ahead_fit test) (outcome_fits result item h, rest_fits s.manager s.next test))
      (each_append (Fits s.next) (before test s.items) _ (ahead_fit test) (outcome_fits result item h, each_behind (Fits s.next) test s.items themselves))

  of_result : (result : JobResult) (o : Option QueueItem) → find (has_set result.set) s.items ≡ o → FitsPlan s.next (resulted s result o)
  of_result result None e = tt
  of_result result (Some item) e = of_job result item (find (is_job result.job) item.jobs) (each_found (Stood s.next) (has_set result.set) s.items item stood e)

  of_dequeue : (key : Key) (o : Option QueueItem) → FitsPlan s.next (dequeued s key o)
  of_dequeue key None = tt
  of_dequeue key (Some item) = each_append (Fits s.next) (before (is_of key) s.items) _ (ahead_fit (is_of key)) (rest_fits s.manager s.next (is_of key))

  of_reset : (key : Key) (o : Option QueueItem) → find (is_of key) s.items ≡ o → FitsPlan s.next (reset s key o)
  of_reset key None e = tt
  of_reset key (Some item) e =
      let is : Stood s.next item = each_found (Stood s.next) (is_of key) s.items item stood e in
      each_append (Fits s.next) (before (is_of key) s.items) _ (ahead_fit (is_of key)) (with_set_fits s.next item is.0, rest_fits s.manager (s.next + 1) (is_of key))

  of_plan : (action : Action) → FitsPlan s.next (plan s action)
  of_plan (action.Trigger key patchset jobs) = of_trigger key patchset jobs
  of_plan (action.Result result) = of_result result (find (has_set result.set) s.items) refl
  of_plan (action.Manage (manage.Dequeue key)) = of_dequeue key (find (is_of key) s.items)
  of_plan (action.Manage (manage.Reset key)) = of_reset key (find (is_of key) s.items) refl

pub fits_plan : (s : State) (action : Action) → Sound s.next s.items → Each HasJobs s.items → FitsPlan s.next (plan s action)
fits_plan s action sound jobs = of_plan s (handed s.next s.items sound.high jobs) action
