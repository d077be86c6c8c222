-- What an index leaves of an action is what the definition leaves.
use Rattle.std.proofs.Common.{◌≡◌, ◌∙◌, ◌+◌, ◌<◌, ◌≤◌, ℕ, List, [], ◌∷◌, ◌++◌, Bool, true, false, cond, Option, Some, None, map, refl, sym, ap, arith}
use Rattle.std.specs.Prelude.{◌||◌, Err, Ok, OnErr, Result, is_some, ◌^◌, option_map}
use Rattle.std.specs.List.{find, list_any}
use Rattle.std.specs.Map.{lookup, remove_entry, set_value, values_of}
use Rattle.std.proofs.lemmas.Bool.{le-ltb, lt-ltb}
use Rattle.gate_record.specs.declared.ids.ManagerKind.TheVariants.{Independent}
use Rattle.gate_items.specs.Inner.Agreement.{Agrees, Found, is_here}
use Rattle.gate_items.specs.Machine.{Makes, Refuses, State, after_plan, before, behind, dequeued, ended, has_set, is_complete, is_first_failure, is_job, is_of, leaving, recorded, report_of, reset, resulted, staying, with_outcome, with_set}
use Rattle.gate_items.specs.declared.action.JobResult.{JobResult}
use Rattle.gate_items.specs.declared.action.Discard.TheVariants.{NoItem, NoJob, NotCurrent, Numbers, Repeated}
use Rattle.gate_items.specs.declared.action.Outcome.{Outcome}
use Rattle.gate_items.specs.declared.action.Outcome.TheVariants.{Applied, Discarded}
use Rattle.gate_items.specs.declared.item.QueueItem.{QueueItem}
use Rattle.gate_items.specs.declared.item.Report.{Report}
use Rattle.gate_items.specs.declared.key.Key.{Key}
use Rattle.gate_items.proofs.Entries.{Entry, Sight, at_place, each_map, sight}
use Rattle.gate_items.proofs.Shown.{Means, Wait, means_item, means_nothing, means_with, means_without, quiet, reports, shown}

abbrev after_plan_made : ℕ → ℕ → List Entry → List Report → List QueueItem → State
after_plan_made next sets es told made = record { manager = Independent; next = next + sets; items = staying Independent made; reported = told ++ map report_of (leaving Independent made) }

pub on_err : {A B : Type 0} (r : Result A B) (P : Type 0) → P → OnErr r P
on_err (Ok x) P h = tt
on_err (Err x) P h = h

any_is : (test : QueueItem → Bool) (items : List QueueItem) → is_some (find test items) ≡ list_any test items
any_is test [] = refl
any_is test (item ∷ items) = by (test item) (any_is test items)
  where
    by : (b : Bool) → is_some (find test items) ≡ list_any test items → is_some (cond b (Some item) (find test items)) ≡ (b || list_any test items)
    by true more = refl
    by false more = more

-- too few numbers, and enough
pub full : (next sets : ℕ) (es : List Entry) (told : List Report) (made : List QueueItem) → 2 ^ 64 ≤ next + sets → after_plan (shown next es told) (Makes made sets) ≡ (shown next es told, Discarded Numbers)
full next sets es told made h = ap (λ b. cond {A = State × Outcome} b (after_plan_made next sets es told made, Applied) (shown next es told, Discarded Numbers)) (le-ltb (next + sets) (2 ^ 64) h)

pub applies : (next sets : ℕ) (es : List Entry) (told : List Report) (made : List QueueItem) → next + sets < 2 ^ 64 → (after_plan (shown next es told) (Makes made sets)).1 ≡ Applied
applies next sets es told made h = ap (λ b. (cond {A = State × Outcome} b (after_plan_made next sets es told made, Applied) (shown next es told, Discarded Numbers)).1) (lt-ltb (next + sets) (2 ^ 64) h)

module _ (next : ℕ) (es : List Entry) (f : Key → Option ℕ) (g : ℕ → Option ℕ) (ok : Agrees next es f g) where
  pub wait : Wait es
  wait = each_map (Found next f g) (λ e. is_complete e.1 ≡ false) es (λ e h. h.waits) ok.each

  pub meant_key : (key : Key) (p : ℕ) → f key ≡ Some p → Means (is_of key) p es
  meant_key key p e = each_map (Found next f g) (λ x. is_of key x.1 ≡ at_place p x.0) es (λ x h. h.keyed key ∙ ap (λ o. is_here o x.0) e) ok.each

  pub meant_set : (n p : ℕ) → g n ≡ Some p → Means (has_set n) p es
  meant_set n p e = each_map (Found next f g) (λ x. has_set n x.1 ≡ at_place p x.0) es (λ x h. h.numbered n ∙ ap (λ o. is_here o x.0) e) ok.each

  pub no_key : (key : Key) → f key ≡ None → find (is_of key) (values_of es) ≡ None
  no_key key e = means_nothing (is_of key) es (each_map (Found next f g) (λ x. is_of key x.1 ≡ false) es (λ x h. h.keyed key ∙ ap (λ o. is_here o x.0) e) ok.each)

  pub no_set : (n : ℕ) → g n ≡ None → find (has_set n) (values_of es) ≡ None
  no_set n e = means_nothing (has_set n) es (each_map (Found next f g) (λ x. has_set n x.1 ≡ false) es (λ x h. h.numbered n ∙ ap (λ o. is_here o x.0) e) ok.each)

  pub found_key : (key : Key) (p : ℕ) (item : QueueItem) → f key ≡ Some p → lookup (at_place p) es ≡ Some item → find (is_of key) (values_of es) ≡ Some item
  found_key key p item e is = means_item (is_of key) p es (meant_key key p e) ∙ is

  pub found_set : (n p : ℕ) (item : QueueItem) → g n ≡ Some p → lookup (at_place p) es ≡ Some item → find (has_set n) (values_of es) ≡ Some item
  found_set n p item e is = means_item (has_set n) p es (meant_set n p e) ∙ is

  pub seen_key : (key : Key) (p : ℕ) → f key ≡ Some p → Sight (lookup (at_place p) es)
  seen_key key p e = sight (lookup (at_place p) es) (ok.keys key p e)

  pub seen_set : (n p : ℕ) → g n ≡ Some p → Sight (lookup (at_place p) es)
  seen_set n p e = sight (lookup (at_place p) es) (ok.sets n p e)

  pub current_is : (n : ℕ) → is_some (g n) ≡ list_any (has_set n) (values_of es)
  current_is n = by (g n) refl
    where
      by : (o : Option ℕ) → g n ≡ o → is_some o ≡ list_any (has_set n) (values_of es)
      by None e = sym (ap is_some (no_set n e)) ∙ any_is (has_set n) (values_of es)
      by (Some p) e = let seen : Sight (lookup (at_place p) es) = seen_set n p e in sym (ap is_some (found_set n p seen.item e seen.is)) ∙ any_is (has_set n) (values_of es)

  module _ (told : List Report) (small : next < 2 ^ 64) where
    abbrev s : State
    s = shown next es told

    -- ---- a dequeue

    pub dequeues_none : (key : Key) → f key ≡ None → (s, Discarded NoItem) ≡ after_plan s (dequeued s key (find (is_of key) s.items))
    dequeues_none key e = sym (ap (λ o. after_plan s (dequeued s key o)) (no_key key e))

    pub dequeues : (key : Key) (p : ℕ) (item : QueueItem) (es' : List Entry) → f key ≡ Some p → lookup (at_place p) es ≡ Some item → es' ≡ remove_entry (at_place p) es → Wait es' → (shown next es' told, Applied) ≡ after_plan s (dequeued s key (find (is_of key) s.items))
    dequeues key p item es' e is gone waits = sym (
        ap (λ o. after_plan s (dequeued s key o)) (found_key key p item e is)
        ∙ quiet next next 0 es es' (before (is_of key) (values_of es) ++ behind (is_of key) (values_of es)) told (omega arith) small (sym (means_without (is_of key) p es (meant_key key p e)) ∙ ap values_of (sym gone)) waits
        )

    -- ---- a reset

    pub resets_none : (key : Key) → f key ≡ None → (s, Discarded NoItem) ≡ after_plan s (reset s key (find (is_of key) s.items))
    resets_none key e = sym (ap (λ o. after_plan s (reset s key o)) (no_key key e))

    abbrev reset_items : Key → QueueItem → List QueueItem
    reset_items key item = before (is_of key) (values_of es) ++ with_set next item ∷ behind (is_of key) (values_of es)

    pub resets_full : (key : Key) (p : ℕ) (item : QueueItem) → f key ≡ Some p → lookup (at_place p) es ≡ Some item → (next + 1 < 2 ^ 64 → ⊥) → (s, Discarded Numbers) ≡ after_plan s (reset s key (find (is_of key) s.items))
    resets_full key p item e is h = sym (ap (λ o. after_plan s (reset s key o)) (found_key key p item e is) ∙ full next 1 es told (reset_items key item) (omega (arith, h)))

    pub reset_applies : (key : Key) (p : ℕ) (item : QueueItem) → f key ≡ Some p → lookup (at_place p) es ≡ Some item → next + 1 < 2 ^ 64 → (after_plan s (reset s key (find (is_of key) s.items))).1 ≡ Applied
    reset_applies key p item e is h = ap (λ o. (after_plan s (reset s key o)).1) (found_key key p item e is) ∙ applies next 1 es told (reset_items key item) h

    pub resets : (key : Key) (p : ℕ) (item : QueueItem) (es' : List Entry) → f key ≡ Some p → lookup (at_place p) es ≡ Some item → es' ≡ set_value (at_place p) es (with_set next item) → Wait es' → next + 1 < 2 ^ 64 → (shown (next + 1) es' told, Applied) ≡ after_plan s (reset s key (find (is_of key) s.items))
    resets key p item es' e is wrote waits h = sym (
        ap (λ o. after_plan s (reset s key o)) (found_key key p item e is)
        ∙ quiet next (next + 1) 1 es es' (reset_items key item) told (omega arith) h (sym (means_with (is_of key) p (with_set next item) item es (meant_key key p e) is) ∙ ap values_of (sym wrote)) waits
        )

    -- ---- a result

    pub results_none : (result : JobResult) → g result.set ≡ None → (s, Discarded NotCurrent) ≡ after_plan s (resulted s result (find (has_set result.set) s.items))
    results_none result e = sym (ap (λ o. after_plan s (resulted s result o)) (no_set result.set e))

    ends_none : (result : JobResult) (item : QueueItem) (o : Option (List ℕ × Option Bool)) → None ≡ option_map (λ (job : List ℕ × Option Bool). job.1) o → ended s result item o ≡ Refuses NoJob
    ends_none result item None e = refl
    ends_none result item (Some (name, b)) e = cc

    ends_twice : (result : JobResult) (item : QueueItem) (o : Option (List ℕ × Option Bool)) (b : Bool) → Some (Some b) ≡ option_map (λ (job : List ℕ × Option Bool). job.1) o → ended s result item o ≡ Refuses Repeated
    ends_twice result item None b e = cc
    ends_twice result item (Some (name, Some c)) b e = refl
    ends_twice result item (Some (name, None)) b e = cc

    ends_open : (result : JobResult) (item : QueueItem) (o : Option (List ℕ × Option Bool)) → Some None ≡ option_map (λ (job : List ℕ × Option Bool). job.1) o → ended s result item o ≡ recorded s result item
    ends_open result item None e = cc
    ends_open result item (Some (name, Some c)) e = cc
    ends_open result item (Some (name, None)) e = refl

    module _ (result : JobResult) (p : ℕ) (item : QueueItem) (e : g result.set ≡ Some p) (is : lookup (at_place p) es ≡ Some item) where
      abbrev w : QueueItem
      w = with_outcome result.job result.success item

      abbrev recorded_items : List QueueItem
      recorded_items = before (has_set result.set) (values_of es) ++ w ∷ behind (has_set result.set) (values_of es)

      pub results_no_job : None ≡ option_map (λ (job : List ℕ × Option Bool). job.1) (find (is_job result.job) item.jobs) → (s, Discarded NoJob) ≡ after_plan s (resulted s result (find (has_set result.set) s.items))
      results_no_job h = sym (ap (λ o. after_plan s (resulted s result o)) (found_set result.set p item e is) ∙ ap (after_plan s) (ends_none result item (find (is_job result.job) item.jobs) h))

      pub results_twice : (b : Bool) → Some (Some b) ≡ option_map (λ (job : List ℕ × Option Bool). job.1) (find (is_job result.job) item.jobs) → (s, Discarded Repeated) ≡ after_plan s (resulted s result (find (has_set result.set) s.items))
      results_twice b h = sym (ap (λ o. after_plan s (resulted s result o)) (found_set result.set p item e is) ∙ ap (after_plan s) (ends_twice result item (find (is_job result.job) item.jobs) b h))

      either_way : (b : Bool) → cond b (Makes recorded_items 0) (Makes recorded_items 0) ≡ Makes recorded_items 0
      either_way true = refl
      either_way false = refl

      records : Some None ≡ option_map (λ (job : List ℕ × Option Bool). job.1) (find (is_job result.job) item.jobs) → resulted s result (find (has_set result.set) s.items) ≡ Makes recorded_items 0
      records h = ap (resulted s result) (found_set result.set p item e is) ∙ ends_open result item (find (is_job result.job) item.jobs) h ∙ either_way (is_first_failure result.success item)

      same_items : recorded_items ≡ values_of (set_value (at_place p) es w)
      same_items = sym (means_with (has_set result.set) p w item es (meant_set result.set p e) is)

      pub results_wait : (es' : List Entry) → Some None ≡ option_map (λ (job : List ℕ × Option Bool). job.1) (find (is_job result.job) item.jobs) → es' ≡ set_value (at_place p) es w → Wait es' → (shown next es' told, Applied) ≡ after_plan s (resulted s result (find (has_set result.set) s.items))
      results_wait es' h wrote waits = sym (ap (after_plan s) (records h) ∙ quiet next next 0 es es' recorded_items told (omega arith) small (same_items ∙ ap values_of (sym wrote)) waits)

      pub results_report : (es' : List Entry) (more : List Report) → Some None ≡ option_map (λ (job : List ℕ × Option Bool). job.1) (find (is_job result.job) item.jobs) → is_complete w ≡ true → es' ≡ remove_entry (at_place p) es → more ≡ told ++ report_of w ∷ [] → (shown next es' more, Applied) ≡ after_plan s (resulted s result (find (has_set result.set) s.items))
      results_report es' more h done gone added =
          ap (λ l. (shown next l more, Applied)) gone
          ∙ ap (λ r. (shown next (remove_entry (at_place p) es) r, Applied)) added
          ∙ sym (ap (after_plan s) (records h) ∙ reports next next 0 es recorded_items told p w item (omega arith) small same_items done wait is)
