-- Each job has the outcome that was said of it.
use Rattle.std.proofs.Common.{◌≡◌, ◌∙◌, refl, sym, ap, subst, ◌+◌, ◌<◌, ◌≤◌, ℕ, ℤ, List, [], ◌∷◌, ◌++◌, Bool, true, false, cond, Option, Some, None, map, nat_eq, nat_lt, append-nil, append_assoc, arith}
use Rattle.std.specs.Prelude.{int_lt, ◌^◌, ◌&&◌, unwrap_or}
use Rattle.std.specs.List.{cons_option, find}
use Rattle.std.specs.Option.{option_to_list}
use Rattle.std.specs.Ordering.{int_eq}
use Rattle.std.specs.Str.{bytes_eq}
use Rattle.std.proofs.lemmas.Bool.{eqb-true, ltb-true, ltb-false}
use Rattle.std.proofs.lemmas.List.Elements.{filter_map-append}
use Rattle.std.proofs.lemmas.Slice.Eq.{bytes_eq-Decides}
use Rattle.gate_record.specs.declared.ids.ManagerKind.{ManagerKind}
use Rattle.gate_record.specs.declared.ids.ManagerKind.TheVariants.{Independent, Dependent}
use Rattle.gate_items.specs.declared.action.Action.{Action}
use Rattle.gate_items.specs.declared.action.Action.TheVariants as action
use Rattle.gate_items.specs.declared.action.Manage.TheVariants as manage
use Rattle.gate_items.specs.declared.action.JobResult.{JobResult}
use Rattle.gate_items.specs.declared.action.Discard.{Discard}
use Rattle.gate_items.specs.declared.action.Discard.TheVariants.{Numbers}
use Rattle.gate_items.specs.declared.action.Outcome.{Outcome}
use Rattle.gate_items.specs.declared.action.Outcome.TheVariants.{Applied, Discarded}
use Rattle.gate_items.specs.declared.item.QueueItem.{QueueItem}
use Rattle.gate_items.specs.declared.key.Key.{Key}
use Rattle.gate_items.specs.History.{after, start}
use Rattle.gate_items.specs.Machine.{Plan, Refuses, Makes, State, after_plan, apply, before, behind, behind_it, dequeued, ended, has_set, is_first_failure, is_job, is_of, leaving, new_item, open_job, placing, plan, record_at, recorded, renewed, report_of, reset, resulted, sets_behind, staying, triggered, with_outcome, with_set}
use Rattle.gate_items.specs.Outcomes.{OutcomesAreSaid, run, said, says}
use Rattle.gate_items.proofs.Each.{Each, each_append, each_at, each_before, each_behind, each_map, each_staying}
use Rattle.gate_items.proofs.Sound.{Sound, goes}
use Rattle.gate_items.proofs.Times.{bit, once, times, times_split}

-- ---- what was said

cons_one : {Y : Type 0} (o : Option Y) → cons_option o [] ≡ option_to_list o
cons_one None = refl
cons_one (Some y) = refl

abbrev Past : Type 0
Past = List (Action × Outcome)

said_push : (set : ℕ) (name : List ℕ) (h : Past) (a : Action) (o : Outcome) → said set name (h ++ (a, o) ∷ []) ≡ said set name h ++ option_to_list (says set name a o)
said_push set name h a o =
    filter_map-append (λ (event : Action × Outcome). says set name event.0 event.1) h ((a, o) ∷ [])
    ∙ ap (λ (xs : List Bool). said set name h ++ xs) (cons_one (says set name a o))

said_same : (set : ℕ) (name : List ℕ) (h : Past) (a : Action) (o : Outcome) → says set name a o ≡ None → said set name (h ++ (a, o) ∷ []) ≡ said set name h
said_same set name h a o e = said_push set name h a o ∙ ap (λ (x : Option Bool). said set name h ++ option_to_list x) e ∙ append-nil (said set name h)

-- a job has the outcome that was said of it
abbrev JobTold : Past → ℕ → List ℕ × Option Bool → Type 0
JobTold h set job = option_to_list job.1 ≡ said set job.0 h

abbrev ItemTold : Past → QueueItem → Type 0
ItemTold h item = Each (JobTold h item.set) item.jobs

-- nothing was said of numbers that weren't handed out
abbrev Unsaid : ℕ → Past → Type 0
Unsaid next h = (set : ℕ) (name : List ℕ) → next ≤ set → said set name h ≡ []

record Holds (h : Past) (s : State) : Type 0 where
  pub each : Each (ItemTold h) s.items
  pub unsaid : Unsaid s.next h
  pub sound : Sound s.next s.items

-- ---- items of which nothing more is said, and new ones

told_same : (h h' : Past) (item : QueueItem) → ((name : List ℕ) → said item.set name h' ≡ said item.set name h) → ItemTold h item → ItemTold h' item
told_same h h' item same told = each_map (JobTold h item.set) (JobTold h' item.set) (λ job is. is ∙ sym (same job.0)) item.jobs told

opened : (h : Past) (set : ℕ) → ((name : List ℕ) → said set name h ≡ []) → (jobs : List (List ℕ × Option Bool)) → Each (JobTold h set) (map open_job jobs)
opened h set none [] = tt
opened h set none (job ∷ jobs) = (sym (none job.0), opened h set none jobs)

named : (h : Past) (set : ℕ) → ((name : List ℕ) → said set name h ≡ []) → (names : List (List ℕ)) → Each (JobTold h set) (map (λ name. (name, None)) names)
named h set none [] = tt
named h set none (name ∷ names) = (sym (none name), named h set none names)

renewed_told : (h : Past) (next k : ℕ) → Unsaid next h → next ≤ k → (items : List QueueItem) → Each (ItemTold h) (renewed k items)
renewed_told h next k unsaid le [] = tt
renewed_told h next k unsaid le (item ∷ items) = (opened h k (λ name. unsaid k name le) item.jobs, renewed_told h next (k + 1) unsaid (omega (arith, le)) items)

behind_told : (h : Past) (next k : ℕ) → Unsaid next h → next ≤ k → (m : ManagerKind) (items : List QueueItem) → Each (ItemTold h) items → Each (ItemTold h) (behind_it m k items)
behind_told h next k unsaid le Independent items told = told
behind_told h next k unsaid le Dependent items told = renewed_told h next k unsaid le items

-- ---- plans of which nothing is said

abbrev PlanTold : Past → Plan → Type 0
PlanTold h (Refuses why) = Unit {0}
PlanTold h (Makes items sets) = Each (ItemTold h) items

told_either : (h : Past) (b : Bool) (p q : Plan) → PlanTold h p → PlanTold h q → PlanTold h (cond b p q)
told_either h true p q f g = f
told_either h false p q f g = g

module _ (h : Past) (s : State) (each : Each (ItemTold h) s.items) (unsaid : Unsaid s.next h) where
  new_told : (key : Key) (patchset : ℤ) (set : ℕ) (jobs : List (List ℕ)) → s.next ≤ set → ItemTold h (new_item key patchset set jobs)
  new_told key patchset set jobs le = named h set (λ name. unsaid set name le) jobs

  ahead_told : (test : QueueItem → Bool) → Each (ItemTold h) (before test s.items)
  ahead_told test = each_before (ItemTold h) test s.items each

  rest_told : (test : QueueItem → Bool) (k : ℕ) → s.next ≤ k → Each (ItemTold h) (behind_it s.manager k (behind test s.items))
  rest_told test k le = behind_told h s.next k unsaid le s.manager (behind test s.items) (each_behind (ItemTold h) test s.items each)

  placed_told : (key : Key) (patchset : ℤ) (jobs : List (List ℕ)) (o : Option QueueItem) → PlanTold h (placing s key patchset jobs o)
  placed_told key patchset jobs None = each_append (ItemTold h) s.items (new_item key patchset s.next jobs ∷ []) each (new_told key patchset s.next jobs (omega arith), tt)
  placed_told key patchset jobs (Some item) =
      let rest = behind_it s.manager s.next (behind (is_of key) s.items) in
      let set = s.next + sets_behind s.manager (behind (is_of key) s.items) in
      told_either h (int_eq patchset item.patchset) _ _ tt
      (told_either h (int_lt patchset item.patchset) _ _ tt
      (each_append (ItemTold h) (before (is_of key) s.items ++ rest) (new_item key patchset set jobs ∷ [])
      (each_append (ItemTold h) (before (is_of key) s.items) rest (ahead_told (is_of key)) (rest_told (is_of key) s.next (omega arith)))
      (new_told key patchset set jobs (omega arith), tt)))

  trigger_told : (key : Option Key) (patchset : ℤ) (jobs : List (List ℕ)) → PlanTold h (triggered s key patchset jobs)
  trigger_told None patchset jobs = tt
  trigger_told (Some key) patchset [] = tt
  trigger_told (Some key) patchset (job ∷ jobs) = placed_told key patchset (job ∷ jobs) (find (is_of key) s.items)

  dequeue_told : (key : Key) (o : Option QueueItem) → PlanTold h (dequeued s key o)
  dequeue_told key None = tt
  dequeue_told key (Some item) = each_append (ItemTold h) (before (is_of key) s.items) (behind_it s.manager s.next (behind (is_of key) s.items)) (ahead_told (is_of key)) (rest_told (is_of key) s.next (omega arith))

  reset_told : (key : Key) (o : Option QueueItem) → PlanTold h (reset s key o)
  reset_told key None = tt
  reset_told key (Some item) =
      each_append (ItemTold h) (before (is_of key) s.items) (with_set s.next item ∷ behind_it s.manager (s.next + 1) (behind (is_of key) s.items)) (ahead_told (is_of key))
      (opened h s.next (λ name. unsaid s.next name (omega arith)) item.jobs, rest_told (is_of key) (s.next + 1) (omega arith))

-- ---- a result that is applied

found_passes : (test : QueueItem → Bool) (items : List QueueItem) (item : QueueItem) → find test items ≡ Some item → test item ≡ true
found_passes test [] item e = absurd (cc)
found_passes test (x ∷ xs) item e = by (test x) refl e (found_passes test xs item)
  where
    by : (b : Bool) → test x ≡ b → cond b (Some x) (find test xs) ≡ Some item → (find test xs ≡ Some item → test item ≡ true) → test item ≡ true
    by true t found rest = let same : x ≡ item = ap (λ o. unwrap_or o x) found in ap test (sym same) ∙ t
    by false t found rest = rest found

found_each : (P : QueueItem → Type 0) (test : QueueItem → Bool) (items : List QueueItem) (item : QueueItem) → Each P items → find test items ≡ Some item → P item
found_each P test [] item h e = absurd (cc)
found_each P test (x ∷ xs) item h e = by (test x) e (found_each P test xs item h.1)
  where
    by : (b : Bool) → cond b (Some x) (find test xs) ≡ Some item → (find test xs ≡ Some item → P item) → P item
    by true found rest = let same : x ≡ item = ap (λ o. unwrap_or o x) found in subst P same h.0
    by false found rest = rest found

-- the items ahead of one that is found don't pass
ahead_fails : (test : QueueItem → Bool) (items : List QueueItem) → Each (λ item. test item ≡ false) (before test items)
ahead_fails test [] = tt
ahead_fails test (x ∷ xs) = by (test x) refl (ahead_fails test xs)
  where
    by : (b : Bool) → test x ≡ b → Each (λ item. test item ≡ false) (before test xs) → Each (λ item. test item ≡ false) (cond b [] (x ∷ before test xs))
    by true t rest = tt
    by false t rest = (t, rest)

none_passes : (n : ℕ) (items : List QueueItem) → times n items ≡ 0 → Each (λ item. has_set n item ≡ false) items
none_passes n [] e = tt
none_passes n (x ∷ xs) e = (by (nat_eq x.set n) refl, none_passes n xs (omega (arith, e)))
  where
    by : (b : Bool) → nat_eq x.set n ≡ b → nat_eq x.set n ≡ false
    by true t = let one : once n x.set ≡ 1 = ap bit t in absurd (omega (arith, one, e))
    by false t = t

each_both : (P Q R : QueueItem → Type 0) → ((item : QueueItem) → P item → Q item → R item) → (items : List QueueItem) → Each P items → Each Q items → Each R items
each_both P Q R f [] h k = tt
each_both P Q R f (x ∷ xs) h k = (f x h.0 k.0, each_both P Q R f xs h.1 k.1)

differs_by : (b : Bool) (x y : ℕ) → nat_eq x y ≡ b → (x ≡ y → ⊥) → nat_eq x y ≡ false
differs_by true x y e h = absurd (h (eqb-true x y e))
differs_by false x y e h = e

module _ (h : Past) (s : State) (holds : Holds h s) (result : JobResult) (item : QueueItem) (found : find (has_set result.set) s.items ≡ Some item) where
  abbrev now : Past
  now = h ++ (action.Result result, Applied) ∷ []

  -- of another build set nothing is said
  other_set : (set : ℕ) → nat_eq set result.set ≡ false → (name : List ℕ) → said set name now ≡ said set name h
  other_set set differs name =
      said_same set name h (action.Result result) Applied (ap (λ (b : Bool). cond (b && bytes_eq name result.job) (Some result.success) None) differs)

  item_set : item.set ≡ result.set
  item_set = eqb-true item.set result.set (found_passes (has_set result.set) s.items item found)

  standing : 1 ≤ times result.set s.items
  standing =
      let parts : times result.set s.items ≡ times result.set (before (has_set result.set) s.items) + (once result.set item.set + times result.set (behind (has_set result.set) s.items)) = times_split result.set (has_set result.set) s.items item found in
      let one : once result.set item.set ≡ 1 = ap bit (found_passes (has_set result.set) s.items item found) in
      omega (arith, parts, one)

  -- its number was handed out
  handed : result.set < s.next
  handed = by (nat_lt result.set s.next) (ltb-true result.set s.next) (ltb-false result.set s.next)
    where
      by : (b : Bool) → (b ≡ true → result.set < s.next) → (b ≡ false → s.next ≤ result.set) → result.set < s.next
      by true below above = below refl
      by false below above = let none : times result.set s.items ≡ 0 = holds.sound.high result.set (above refl) in absurd (omega (arith, standing, none))

  still_unsaid : Unsaid s.next now
  still_unsaid set name le = other_set set (differs_by (nat_eq set result.set) set result.set refl (λ e. omega (arith, e, handed, le))) name ∙ holds.unsaid set name le

  told_other : (other : QueueItem) → has_set result.set other ≡ false → ItemTold h other → ItemTold now other
  told_other other differs told = told_same h now other (other_set other.set differs) told

  ahead_now : Each (ItemTold now) (before (has_set result.set) s.items)
  ahead_now = each_both (λ x. has_set result.set x ≡ false) (ItemTold h) (ItemTold now) told_other (before (has_set result.set) s.items)
      (ahead_fails (has_set result.set) s.items) (each_before (ItemTold h) (has_set result.set) s.items holds.each)

  behind_none : times result.set (behind (has_set result.set) s.items) ≡ 0
  behind_none =
      let parts : times result.set s.items ≡ times result.set (before (has_set result.set) s.items) + (once result.set item.set + times result.set (behind (has_set result.set) s.items)) = times_split result.set (has_set result.set) s.items item found in
      let one : once result.set item.set ≡ 1 = ap bit (found_passes (has_set result.set) s.items item found) in
      omega (arith, parts, one, holds.sound.most result.set)

  behind_now : Each (ItemTold now) (behind (has_set result.set) s.items)
  behind_now = each_both (λ x. has_set result.set x ≡ false) (ItemTold h) (ItemTold now) told_other (behind (has_set result.set) s.items)
      (none_passes result.set (behind (has_set result.set) s.items) behind_none) (each_behind (ItemTold h) (has_set result.set) s.items holds.each)

  told_item : ItemTold h item
  told_item = found_each (ItemTold h) (has_set result.set) s.items item holds.each found

  -- ---- the item's jobs, where the one that is meant had no outcome

  module _ (none_said : said item.set result.job h ≡ []) where
    said_now : (name : List ℕ) (b : Bool) → bytes_eq name result.job ≡ b → says item.set name (action.Result result) Applied ≡ cond b (Some result.success) None
    said_now name b e =
        ap (λ (c : Bool). cond (c && bytes_eq name result.job) (Some result.success) None) (found_passes (has_set result.set) s.items item found)
        ∙ ap (λ (c : Bool). cond c (Some result.success) None) e

    job_now : (job : List ℕ × Option Bool) → JobTold h item.set job → JobTold now item.set (record_at result.job result.success job)
    job_now job told = by (is_job result.job job) refl
      where
        by : (b : Bool) → bytes_eq job.0 result.job ≡ b → JobTold now item.set (cond b (job.0, Some result.success) job)
        by true e =
            let same : job.0 ≡ result.job = (bytes_eq-Decides job.0 result.job).0 e in
            sym (said_push item.set job.0 h (action.Result result) Applied
            ∙ ap (λ (o : Option Bool). said item.set job.0 h ++ option_to_list o) (said_now job.0 true e)
            ∙ ap (λ (xs : List Bool). xs ++ result.success ∷ []) (ap (λ (name : List ℕ). said item.set name h) same ∙ none_said))
        by false e = told ∙ sym (said_same item.set job.0 h (action.Result result) Applied (said_now job.0 false e))

    jobs_now : (jobs : List (List ℕ × Option Bool)) → Each (JobTold h item.set) jobs → Each (JobTold now item.set) (map (record_at result.job result.success) jobs)
    jobs_now [] told = tt
    jobs_now (job ∷ jobs) told = (job_now job told.0, jobs_now jobs told.1)

    item_now : ItemTold now (with_outcome result.job result.success item)
    item_now = jobs_now item.jobs told_item

    record_told : PlanTold now (recorded s result item)
    record_told =
        told_either now (is_first_failure result.success item) _ _
        (each_append (ItemTold now) (before (has_set result.set) s.items) (with_outcome result.job result.success item ∷ behind_it s.manager s.next (behind (has_set result.set) s.items)) ahead_now
        (item_now, behind_told now s.next s.next still_unsaid (omega arith) s.manager (behind (has_set result.set) s.items) behind_now))
        (each_append (ItemTold now) (before (has_set result.set) s.items) (with_outcome result.job result.success item ∷ behind (has_set result.set) s.items) ahead_now (item_now, behind_now))

  job_passes : (name : List ℕ) (jobs : List (List ℕ × Option Bool)) (job : List ℕ × Option Bool) → find (is_job name) jobs ≡ Some job → Each (JobTold h item.set) jobs → JobTold h item.set job × (job.0 ≡ name)
  job_passes name [] job e told = absurd (cc)
  job_passes name (x ∷ xs) job e told = by (is_job name x) refl e (λ found'. job_passes name xs job found' told.1)
    where
      by : (b : Bool) → bytes_eq x.0 name ≡ b → cond b (Some x) (find (is_job name) xs) ≡ Some job → (find (is_job name) xs ≡ Some job → JobTold h item.set job × (job.0 ≡ name)) → JobTold h item.set job × (job.0 ≡ name)
      by true t found' rest =
          let same : x ≡ job = ap (λ o. unwrap_or o x) found' in
          (subst (JobTold h item.set) same told.0, ap (λ (j : List ℕ × Option Bool). j.0) (sym same) ∙ (bytes_eq-Decides x.0 name).0 t)
      by false t found' rest = rest found'

  open_said : (name : List ℕ) → find (is_job result.job) item.jobs ≡ Some (name, None) → said item.set result.job h ≡ []
  open_said name e =
      let passes = job_passes result.job item.jobs (name, None) e told_item in
      ap (λ (n : List ℕ). said item.set n h) (sym passes.1) ∙ sym passes.0

  ended_told : (o : Option (List ℕ × Option Bool)) → find (is_job result.job) item.jobs ≡ o → PlanTold now (ended s result item o)
  ended_told None e = tt
  ended_told (Some (name, Some success)) e = tt
  ended_told (Some (name, None)) e = record_told (open_said name e)

-- ---- each action

module _ (h : Past) (s : State) (holds : Holds h s) where
  abbrev with_applied : Action → Past
  with_applied a = h ++ (a, Applied) ∷ []

  -- of an action that isn't a result nothing is said
  quiet_each : (a : Action) → ((set : ℕ) (name : List ℕ) → says set name a Applied ≡ None) → Each (ItemTold (with_applied a)) s.items
  quiet_each a quiet = each_map (ItemTold h) (ItemTold (with_applied a)) (λ item told. told_same h (with_applied a) item (λ name. said_same item.set name h a Applied (quiet item.set name)) told) s.items holds.each

  quiet_unsaid : (a : Action) → ((set : ℕ) (name : List ℕ) → says set name a Applied ≡ None) → Unsaid s.next (with_applied a)
  quiet_unsaid a quiet set name le = said_same set name h a Applied (quiet set name) ∙ holds.unsaid set name le

  -- what is made by a plan, and that nothing was said of other numbers
  abbrev PlanHolds : Action → Plan → Type 0
  PlanHolds a (Refuses why) = Unit {0}
  PlanHolds a (Makes items sets) = Each (ItemTold (with_applied a)) items × Unsaid s.next (with_applied a)

  with_unsaid : (a : Action) (p : Plan) → PlanTold (with_applied a) p → Unsaid s.next (with_applied a) → PlanHolds a p
  with_unsaid a (Refuses why) told unsaid = tt
  with_unsaid a (Makes items sets) told unsaid = (told, unsaid)

  result_holds : (result : JobResult) (o : Option QueueItem) → find (has_set result.set) s.items ≡ o → PlanHolds (action.Result result) (resulted s result o)
  result_holds result None e = tt
  result_holds result (Some item) e =
      with_unsaid (action.Result result) (ended s result item (find (is_job result.job) item.jobs))
      (ended_told h s holds result item e (find (is_job result.job) item.jobs) refl) (still_unsaid h s holds result item e)

  quiet_holds : (a : Action) → ((set : ℕ) (name : List ℕ) → says set name a Applied ≡ None) → (p : Plan) →
      (Each (ItemTold (with_applied a)) s.items → Unsaid s.next (with_applied a) → PlanTold (with_applied a) p) → PlanHolds a p
  quiet_holds a quiet p told = with_unsaid a p (told (quiet_each a quiet) (quiet_unsaid a quiet)) (quiet_unsaid a quiet)

  plan_holds : (a : Action) → PlanHolds a (plan s a)
  plan_holds (action.Trigger key patchset jobs) =
      quiet_holds (action.Trigger key patchset jobs) (λ set name. refl) (triggered s key patchset jobs)
      (λ each unsaid. trigger_told (with_applied (action.Trigger key patchset jobs)) s each unsaid key patchset jobs)
  plan_holds (action.Result result) = result_holds result (find (has_set result.set) s.items) refl
  plan_holds (action.Manage (manage.Dequeue key)) =
      quiet_holds (action.Manage (manage.Dequeue key)) (λ set name. refl) (dequeued s key (find (is_of key) s.items))
      (λ each unsaid. dequeue_told (with_applied (action.Manage (manage.Dequeue key))) s each unsaid key (find (is_of key) s.items))
  plan_holds (action.Manage (manage.Reset key)) =
      quiet_holds (action.Manage (manage.Reset key)) (λ set name. refl) (reset s key (find (is_of key) s.items))
      (λ each unsaid. reset_told (with_applied (action.Manage (manage.Reset key))) s each unsaid key (find (is_of key) s.items))

  -- of an action that is discarded nothing is said
  lost : (set : ℕ) (name : List ℕ) (a : Action) (why : Discard) → says set name a (Discarded why) ≡ None
  lost set name (action.Trigger key patchset jobs) why = refl
  lost set name (action.Result result) why = refl
  lost set name (action.Manage manage) why = refl

  discarded_holds : (a : Action) (why : Discard) → Holds (h ++ (a, Discarded why) ∷ []) s
  discarded_holds a why = record {
    each = each_map (ItemTold h) (ItemTold (h ++ (a, Discarded why) ∷ [])) (λ item told. told_same h (h ++ (a, Discarded why) ∷ []) item (λ name. said_same item.set name h a (Discarded why) (lost item.set name a why)) told) s.items holds.each;
    unsaid = λ set name le. said_same set name h a (Discarded why) (lost set name a why) ∙ holds.unsaid set name le;
    sound = holds.sound;
  }

  abbrev HoldsAfter : Action → State × Outcome → Type 0
  HoldsAfter a next = Sound next.0.next next.0.items → Holds (h ++ (a, next.1) ∷ []) next.0

  made_holds : (a : Action) (items : List QueueItem) (sets : ℕ) → Each (ItemTold (with_applied a)) items → Unsaid s.next (with_applied a) → (b : Bool) →
      HoldsAfter a (cond {A = State × Outcome} b (record { manager = s.manager; next = s.next + sets; items = staying s.manager items; reported = s.reported ++ map report_of (leaving s.manager items) }, Applied) (s, Discarded Numbers))
  made_holds a items sets told unsaid true sound = record {
    each = each_staying (ItemTold (with_applied a)) s.manager items told;
    unsaid = λ set name le. unsaid set name (omega (arith, le));
    sound = sound;
  }
  made_holds a items sets told unsaid false sound = discarded_holds a Numbers

  after_holds : (a : Action) (p : Plan) → PlanHolds a p → HoldsAfter a (after_plan s p)
  after_holds a (Refuses why) told sound = discarded_holds a why
  after_holds a (Makes items sets) told sound = made_holds a items sets told.0 told.1 (nat_lt (s.next + sets) (2 ^ 64)) sound

  holds_on : (a : Action) → Holds (h ++ (a, (apply s a).1) ∷ []) (apply s a).0
  holds_on a = after_holds a (plan s a) (plan_holds a) ((goes s a).sound holds.sound)

-- ---- all actions

holds_all : (h : Past) (s : State) (actions : List Action) → Holds h s → Holds (h ++ run s actions) (after s actions)
holds_all h s [] holds = subst (λ (past : Past). Holds past s) (sym (append-nil h)) holds
holds_all h s (a ∷ actions) holds =
    let next = apply s a in
    subst (λ (past : Past). Holds past (after next.0 actions)) (append_assoc h ((a, next.1) ∷ []) (run next.0 actions))
    (holds_all (h ++ (a, next.1) ∷ []) next.0 actions (holds_on h s holds a))

start_holds : (manager : ManagerKind) (first : ℕ) → Holds [] (start manager first)
start_holds manager first = record { each = tt; unsaid = λ set name le. refl; sound = record { most = λ n. omega arith; high = λ n le. refl } }

pub outcomes_are_said : OutcomesAreSaid
outcomes_are_said manager first actions i j item job at has =
    let s = start manager first in
    let holds : Holds (run s actions) (after s actions) = holds_all [] s actions (start_holds manager first) in
    each_at (JobTold (run s actions) item.set) item.jobs j job (each_at (ItemTold (run s actions)) (after s actions).items i item holds.each at) has
