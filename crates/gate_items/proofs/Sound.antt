-- No number is handed out twice.
use Rattle.std.proofs.Common.{◌≡◌, ◌+◌, ◌<◌, ◌≤◌, ℕ, ℤ, List, [], ◌∷◌, ◌++◌, Bool, true, false, cond, Option, Some, None, length, map, nat_lt, refl, ap, arith}
use Rattle.std.specs.Prelude.{int_lt, not, ◌^◌}
use Rattle.std.specs.List.{filter, find}
use Rattle.std.specs.Ordering.{int_eq}
use Rattle.std.proofs.lemmas.Bool.{ltb-true, ltb-false}
use Rattle.gate_record.specs.declared.ids.ManagerKind.{ManagerKind}
use Rattle.gate_record.specs.declared.ids.ManagerKind.TheVariants.{Independent, Dependent}
use Rattle.gate_items.specs.declared.action.Action.{Action}
use Rattle.gate_items.specs.declared.action.Action.TheVariants as action
use Rattle.gate_items.specs.declared.action.Manage.TheVariants as manage
use Rattle.gate_items.specs.declared.action.JobResult.{JobResult}
use Rattle.gate_items.specs.declared.action.Discard.TheVariants.{Numbers}
use Rattle.gate_items.specs.declared.action.Outcome.{Outcome}
use Rattle.gate_items.specs.declared.action.Outcome.TheVariants.{Applied, Discarded}
use Rattle.gate_items.specs.declared.item.QueueItem.{QueueItem}
use Rattle.gate_items.specs.declared.key.Key.{Key}
use Rattle.gate_items.specs.Machine.{Plan, Refuses, Makes, State, after_plan, apply, before, behind, behind_it, dequeued, ended, has_set, is_complete, is_first_failure, is_job, is_of, leaving, new_item, placing, plan, renewed, reset, report_of, rest_of, resulted, sets_behind, staying, triggered, with_outcome, with_set}
use Rattle.gate_items.proofs.Chunks.{Chunk, chunk_both, chunk_more, chunk_none, chunk_renewed}
use Rattle.gate_items.proofs.Times.{once, times, times-append, times_split}

-- each number is one item's at the most, and those of items were handed out
pub record Sound (next : ℕ) (items : List QueueItem) : Type 0 where
  pub most : (n : ℕ) → times n items ≤ 1
  pub high : (n : ℕ) → next ≤ n → times n items ≡ 0

-- items that come of others: of the numbers that were handed out before none is on more of them, and the rest are new
pub record Fresh (next : ℕ) (old : List QueueItem) (items : List QueueItem) (sets : ℕ) : Type 0 where
  pub fewer : (n : ℕ) → n < next → times n items ≤ times n old
  pub sound : Sound next old → Sound (next + sets) items

-- some of the old items, and others with new numbers
fresh : (next : ℕ) (old kept made items : List QueueItem) (sets : ℕ) → ((n : ℕ) → times n items ≡ times n kept + times n made) → ((n : ℕ) → times n kept ≤ times n old) → Chunk next sets made → Fresh next old items sets
fresh next old kept made items sets parts some chunk = record {
  fewer = λ n h. let none : times n made ≡ 0 = chunk.low n h in omega (arith, parts n, some n, none);
  sound = λ before. record {
    most = λ n. by before n (nat_lt n next) (ltb-true n next) (ltb-false n next);
    high = λ n h. let none : times n made ≡ 0 = chunk.high n h in let gone : times n old ≡ 0 = before.high n (omega (arith, h)) in omega (arith, parts n, some n, none, gone);
  };
}
  where
    by : Sound next old → (n : ℕ) (l : Bool) → (l ≡ true → n < next) → (l ≡ false → next ≤ n) → times n items ≤ 1
    by before n true below above = let none : times n made ≡ 0 = chunk.low n (below refl) in omega (arith, parts n, some n, none, before.most n)
    by before n false below above = let gone : times n old ≡ 0 = before.high n (above refl) in omega (arith, parts n, some n, gone, chunk.most n)

-- what may be done to the items
abbrev pub FreshPlan : State → Plan → Type 0
FreshPlan s (Refuses why) = Unit {0}
FreshPlan s (Makes items sets) = Fresh s.next s.items items sets

either : (s : State) (b : Bool) (p q : Plan) → FreshPlan s p → FreshPlan s q → FreshPlan s (cond b p q)
either s true p q fp fq = fp
either s false p q fp fq = fq

-- the parts of the items around one that is found
module _ (test : QueueItem → Bool) (items : List QueueItem) (item : QueueItem) (found : find test items ≡ Some item) where
  abbrev front : List QueueItem
  front = before test items

  abbrev rest : List QueueItem
  rest = behind test items

  around : (n : ℕ) → times n items ≡ times n front + (once n item.set + times n rest)
  around n = times_split n test items item found

  module _ (next : ℕ) where
    pub removed : (m : ManagerKind) → Fresh next items (front ++ behind_it m next rest) (sets_behind m rest)
    removed Independent = fresh next items (front ++ rest) [] (front ++ rest) 0 (λ n. omega arith) (λ n. omega (arith, times-append n front rest, around n)) (chunk_none next)
    removed Dependent = fresh next items front (renewed next rest) (front ++ renewed next rest) (length rest) (λ n. times-append n front (renewed next rest)) (λ n. omega (arith, around n)) (chunk_renewed next rest)

    -- a new item behind
    pub replaced : (m : ManagerKind) (last : QueueItem) → last.set ≡ next + sets_behind m rest → Fresh next items (front ++ behind_it m next rest ++ last ∷ []) (sets_behind m rest + 1)
    replaced Independent last e =
        fresh next items (front ++ rest) (last ∷ []) (front ++ rest ++ last ∷ []) 1
        (λ n. times-append n (front ++ rest) (last ∷ []))
        (λ n. omega (arith, times-append n front rest, around n))
        (chunk_more next 0 last [] (omega (arith, e)) (chunk_none (next + 1)))
    replaced Dependent last e =
        fresh next items front (renewed next rest ++ last ∷ []) (front ++ renewed next rest ++ last ∷ []) (length rest + 1)
        (λ n. omega (arith, times-append n (front ++ renewed next rest) (last ∷ []), times-append n front (renewed next rest), times-append n (renewed next rest) (last ∷ [])))
        (λ n. omega (arith, around n))
        (chunk_both next (length rest) 1 (renewed next rest) (last ∷ []) (chunk_renewed next rest) (chunk_more (next + length rest) 0 last [] e (chunk_none (next + length rest + 1))))

    -- the item gets a new set itself
    pub renewed_from : (m : ManagerKind) → Fresh next items (front ++ with_set next item ∷ behind_it m (next + 1) rest) (sets_behind m rest + 1)
    renewed_from Independent =
        fresh next items (front ++ rest) (with_set next item ∷ []) (front ++ with_set next item ∷ rest) 1
        (λ n. omega (arith, times-append n front (with_set next item ∷ rest), times-append n front rest))
        (λ n. omega (arith, times-append n front rest, around n))
        (chunk_more next 0 (with_set next item) [] refl (chunk_none (next + 1)))
    renewed_from Dependent =
        fresh next items front (with_set next item ∷ renewed (next + 1) rest) (front ++ with_set next item ∷ renewed (next + 1) rest) (length rest + 1)
        (λ n. times-append n front (with_set next item ∷ renewed (next + 1) rest))
        (λ n. omega (arith, around n))
        (chunk_more next (length rest) (with_set next item) (renewed (next + 1) rest) refl (chunk_renewed (next + 1) rest))

    -- the item keeps its set, and what stands behind may get new ones
    pub failed : (m : ManagerKind) (same : QueueItem) → same.set ≡ item.set → Fresh next items (front ++ same ∷ behind_it m next rest) (sets_behind m rest)
    failed Independent same e = kept_as_it_is same e
      where
        kept_as_it_is : (same : QueueItem) → same.set ≡ item.set → Fresh next items (front ++ same ∷ rest) 0
        kept_as_it_is same e =
            fresh next items (front ++ same ∷ rest) [] (front ++ same ∷ rest) 0 (λ n. omega arith)
            (λ n. let one : once n same.set ≡ once n item.set = ap (once n) e in omega (arith, times-append n front (same ∷ rest), around n, one)) (chunk_none next)
    failed Dependent same e =
        fresh next items (front ++ same ∷ []) (renewed next rest) (front ++ same ∷ renewed next rest) (length rest)
        (λ n. omega (arith, times-append n front (same ∷ renewed next rest), times-append n front (same ∷ [])))
        (λ n. let one : once n same.set ≡ once n item.set = ap (once n) e in omega (arith, times-append n front (same ∷ []), around n, one))
        (chunk_renewed next rest)

    pub succeeded : (same : QueueItem) → same.set ≡ item.set → Fresh next items (front ++ same ∷ rest) 0
    succeeded same e =
        fresh next items (front ++ same ∷ rest) [] (front ++ same ∷ rest) 0 (λ n. omega arith)
        (λ n. let one : once n same.set ≡ once n item.set = ap (once n) e in omega (arith, times-append n front (same ∷ rest), around n, one)) (chunk_none next)

-- ---- each action

module _ (s : State) where
  placed : (key : Key) (patchset : ℤ) (jobs : List (List ℕ)) (o : Option QueueItem) → find (is_of key) s.items ≡ o → FreshPlan s (placing s key patchset jobs o)
  placed key patchset jobs None e =
      fresh s.next s.items s.items (new_item key patchset s.next jobs ∷ []) (s.items ++ new_item key patchset s.next jobs ∷ []) 1
      (λ n. times-append n s.items (new_item key patchset s.next jobs ∷ [])) (λ n. omega arith)
      (chunk_more s.next 0 (new_item key patchset s.next jobs) [] refl (chunk_none (s.next + 1)))
  placed key patchset jobs (Some item) e =
      either s (int_eq patchset item.patchset) _ _ tt
      (either s (int_lt patchset item.patchset) _ _ tt
      (replaced (is_of key) s.items item e s.next s.manager (new_item key patchset (s.next + sets_behind s.manager (behind (is_of key) s.items)) jobs) refl))

  of_trigger : (key : Option Key) (patchset : ℤ) (jobs : List (List ℕ)) → FreshPlan s (triggered s key patchset jobs)
  of_trigger None patchset jobs = tt
  of_trigger (Some key) patchset [] = tt
  of_trigger (Some key) patchset (job ∷ jobs) = placed key patchset (job ∷ jobs) (find (is_of key) s.items) refl

  of_job : (result : JobResult) (item : QueueItem) (o : Option (List ℕ × Option Bool)) → find (has_set result.set) s.items ≡ Some item → FreshPlan s (ended s result item o)
  of_job result item None e = tt
  of_job result item (Some (name, Some success)) e = tt
  of_job result item (Some (name, None)) e =
      either s (is_first_failure result.success item) _ _
      (failed (has_set result.set) s.items item e s.next s.manager (with_outcome result.job result.success item) refl)
      (succeeded (has_set result.set) s.items item e s.next (with_outcome result.job result.success item) refl)

  of_result : (result : JobResult) (o : Option QueueItem) → find (has_set result.set) s.items ≡ o → FreshPlan s (resulted s result o)
  of_result result None e = tt
  of_result result (Some item) e = of_job result item (find (is_job result.job) item.jobs) e

  of_dequeue : (key : Key) (o : Option QueueItem) → find (is_of key) s.items ≡ o → FreshPlan s (dequeued s key o)
  of_dequeue key None e = tt
  of_dequeue key (Some item) e = removed (is_of key) s.items item e s.next s.manager

  of_reset : (key : Key) (o : Option QueueItem) → find (is_of key) s.items ≡ o → FreshPlan s (reset s key o)
  of_reset key None e = tt
  of_reset key (Some item) e = renewed_from (is_of key) s.items item e s.next s.manager

  pub fresh_plan : (action : Action) → FreshPlan s (plan s action)
  fresh_plan (action.Trigger key patchset jobs) = of_trigger key patchset jobs
  fresh_plan (action.Result result) = of_result result (find (has_set result.set) s.items) refl
  fresh_plan (action.Manage (manage.Dequeue key)) = of_dequeue key (find (is_of key) s.items) refl
  fresh_plan (action.Manage (manage.Reset key)) = of_reset key (find (is_of key) s.items) refl

-- ---- after an action

fewer_by : (b : Bool) (n : ℕ) (item : QueueItem) (rest items : List QueueItem) → times n rest ≤ times n items → times n (cond b (item ∷ rest) rest) ≤ once n item.set + times n items
fewer_by true n item rest items h = omega (arith, h)
fewer_by false n item rest items h = omega (arith, h)

fewer_filter : (test : QueueItem → Bool) (n : ℕ) (items : List QueueItem) → times n (filter test items) ≤ times n items
fewer_filter test n [] = omega arith
fewer_filter test n (item ∷ items) = fewer_by (test item) n item (filter test items) items (fewer_filter test n items)

fewer_or : (b : Bool) (n : ℕ) (item : QueueItem) (rest items : List QueueItem) → times n rest ≤ times n items → times n (cond b rest (item ∷ items)) ≤ once n item.set + times n items
fewer_or true n item rest items h = omega (arith, h)
fewer_or false n item rest items h = omega arith

fewer_rest : (n : ℕ) (items : List QueueItem) → times n (rest_of items) ≤ times n items
fewer_rest n [] = omega arith
fewer_rest n (item ∷ items) = fewer_or (is_complete item) n item (rest_of items) items (fewer_rest n items)

fewer_staying : (m : ManagerKind) (n : ℕ) (items : List QueueItem) → times n (staying m items) ≤ times n items
fewer_staying Independent n items = fewer_filter (λ item. not (is_complete item)) n items
fewer_staying Dependent n items = fewer_rest n items

-- an action hands out new numbers alone, and those from before aren't on more items
pub record Goes (s next : State) : Type 0 where
  pub rises : s.next ≤ next.next
  pub fewer : (n : ℕ) → n < s.next → times n next.items ≤ times n s.items
  pub sound : Sound s.next s.items → Sound next.next next.items

abbrev pub made_by : State → List QueueItem → ℕ → State
made_by s items sets = record { manager = s.manager; next = s.next + sets; items = staying s.manager items; reported = s.reported ++ map report_of (leaving s.manager items) }

module _ (s : State) where
  stays : Goes s s
  stays = record { rises = omega arith; fewer = λ n h. omega arith; sound = λ before. before }

  pub fewer_sound : (items : List QueueItem) (sets : ℕ) → Sound (s.next + sets) items → Sound (s.next + sets) (staying s.manager items)
  fewer_sound items sets sound = record {
    most = λ n. omega (arith, fewer_staying s.manager n items, sound.most n);
    high = λ n h. omega (arith, fewer_staying s.manager n items, sound.high n h);
  }

  makes : (b : Bool) (items : List QueueItem) (sets : ℕ) → Fresh s.next s.items items sets → Goes s (cond {A = State × Outcome} b (made_by s items sets, Applied) (s, Discarded Numbers)).0
  makes true items sets f = record {
    rises = omega arith;
    fewer = λ n h. omega (arith, fewer_staying s.manager n items, f.fewer n h);
    sound = λ before. fewer_sound items sets (f.sound before);
  }
  makes false items sets f = stays

  goes_by : (p : Plan) → FreshPlan s p → Goes s (after_plan s p).0
  goes_by (Refuses why) f = stays
  goes_by (Makes items sets) f = makes (nat_lt (s.next + sets) (2 ^ 64)) items sets f

  pub goes : (action : Action) → Goes s (apply s action).0
  goes action = goes_by (plan s action) (fresh_plan s action)
