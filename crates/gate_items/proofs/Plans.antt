-- The plans of actions by the place of the item that is meant.
use Rattle.std.proofs.Common.{◌≡◌, ◌∙◌, ◌+◌, ◌<◌, ℕ, ℤ, List, [], ◌∷◌, ◌++◌, Bool, true, false, cond, Option, Some, None, length, suc, zero, take, drop, get_or, nat_lt, refl, set, sym, ap, arith, subst}
use Rattle.std.specs.Prelude.{◌^◌, ◌≤◌, int_lt, OnErr, Result, Ok}
use Rattle.std.proofs.lemmas.Bool.{ltb-false}
use Rattle.std.proofs.lemmas.List.{set_split}
use Rattle.std.specs.List.{find, position, slice_get}
use Rattle.std.specs.Ordering.{int_eq}
use Rattle.gate_items.specs.declared.action.Discard.{Discard}
use Rattle.gate_items.specs.declared.action.Discard.TheVariants.{Known, NoItem, NotCurrent, Older}
use Rattle.gate_record.specs.declared.memory.Memory.{Memory}
use Rattle.gate_items.specs.declared.action.Outcome.{Outcome}
use Rattle.gate_items.specs.declared.action.Outcome.TheVariants.{Applied}
use Rattle.gate_items.specs.declared.action.JobResult.{JobResult}
use Rattle.gate_items.specs.declared.item.QueueItem.{QueueItem}
use Rattle.gate_items.specs.declared.key.Key.{Key}
use Rattle.gate_items.specs.Machine.{Makes, Plan, Refuses, State, before, behind, behind_it, dequeued, ended, has_set, is_first_failure, is_job, is_of, new_item, placing, replacing, reset, resulted, sets_behind, triggered, with_outcome, with_set}
use Rattle.gate_items.specs.Steps.{Does}
use Rattle.gate_items.specs.Inner.Steps.{Judges, changed, changed_to, dequeued_at, ended_at, fitting, placed_last, recorded_at, replaced_at, reset_at, why_not}
use Rattle.gate_items.proofs.Standing.{Stands, stands_at, stands_nowhere}

-- the item that stands at a place
pub record ItemAt (items : List QueueItem) (k : ℕ) : Type 0 where
  pub item : QueueItem
  pub is : slice_get items k ≡ Some item
  pub read : (d : QueueItem) → item ≡ get_or items k d

pub item_at : (items : List QueueItem) (k : ℕ) → k < length items → ItemAt items k
item_at [] k h = absurd (omega (arith, h))
item_at (x ∷ xs) zero h = record { item = x; is = refl; read = λ d. refl }
item_at (x ∷ xs) (suc k) h = let i : ItemAt xs k = item_at xs k (omega (arith, h)) in record { item = i.item; is = i.is; read = i.read }

module _ (s : State) (test : QueueItem → Bool) (k : ℕ) (stands : Stands (find test s.items) (before test s.items) (behind test s.items) s.items k) where
  after : behind test s.items ≡ drop (k + 1) s.items
  after = let one : suc k ≡ k + 1 = omega arith in stands.after ∙ ap (λ n. drop n s.items) one

  -- what is said of the two parts is said of the lists around the place
  parts : (made : List QueueItem → List QueueItem → Plan) → made (before test s.items) (behind test s.items) ≡ made (take k s.items) (drop (k + 1) s.items)
  parts made = ap (λ front. made front (behind test s.items)) stands.ahead ∙ ap (made (take k s.items)) after

  pub found : (d : QueueItem) → find test s.items ≡ Some (get_or s.items k d)
  found d = let i : ItemAt s.items k = item_at s.items k stands.inside in stands.is ∙ i.is ∙ ap (λ x. Some x) (i.read d)

  found_some : ItemAt s.items k
  found_some = item_at s.items k stands.inside

dequeued_some : (s : State) (key : Key) (k : ℕ) → Stands (find (is_of key) s.items) (before (is_of key) s.items) (behind (is_of key) s.items) s.items k → dequeued s key (find (is_of key) s.items) ≡ dequeued_at s k
dequeued_some s key k stands =
    ap (dequeued s key) (stands.is ∙ (found_some s (is_of key) k stands).is)
    ∙ parts s (is_of key) k stands (λ front rest. Makes (front ++ behind_it s.manager s.next rest) (sets_behind s.manager rest))

pub dequeues_at : (s : State) (key : Key) (k : ℕ) → Some k ≡ position (is_of key) s.items → dequeued s key (find (is_of key) s.items) ≡ dequeued_at s k
dequeues_at s key k e = dequeued_some s key k (stands_at (is_of key) s.items k e)

pub dequeues_nothing : (s : State) (key : Key) → None ≡ position (is_of key) s.items → dequeued s key (find (is_of key) s.items) ≡ Refuses NoItem
dequeues_nothing s key e = ap (dequeued s key) (stands_nowhere (is_of key) s.items e)

reset_some : (s : State) (key : Key) (k : ℕ) (d : QueueItem) → Stands (find (is_of key) s.items) (before (is_of key) s.items) (behind (is_of key) s.items) s.items k → reset s key (find (is_of key) s.items) ≡ reset_at s k (get_or s.items k d)
reset_some s key k d stands =
    ap (reset s key) (found s (is_of key) k stands d)
    ∙ parts s (is_of key) k stands (λ front rest. Makes (front ++ with_set s.next (get_or s.items k d) ∷ behind_it s.manager (s.next + 1) rest) (sets_behind s.manager rest + 1))

pub resets_at : (s : State) (key : Key) (k : ℕ) (d : QueueItem) → Some k ≡ position (is_of key) s.items → reset s key (find (is_of key) s.items) ≡ reset_at s k (get_or s.items k d)
resets_at s key k d e = reset_some s key k d (stands_at (is_of key) s.items k e)

pub resets_nothing : (s : State) (key : Key) → None ≡ position (is_of key) s.items → reset s key (find (is_of key) s.items) ≡ Refuses NoItem
resets_nothing s key e = ap (reset s key) (stands_nowhere (is_of key) s.items e)

-- ---- results

module _ (s : State) (result : JobResult) (k : ℕ) (item : QueueItem) (stands : Stands (find (has_set result.set) s.items) (before (has_set result.set) s.items) (behind (has_set result.set) s.items) s.items k) where
  recorded_some : (b : Bool) → cond b (Makes (before (has_set result.set) s.items ++ with_outcome result.job result.success item ∷ behind_it s.manager s.next (behind (has_set result.set) s.items)) (sets_behind s.manager (behind (has_set result.set) s.items))) (Makes (before (has_set result.set) s.items ++ with_outcome result.job result.success item ∷ behind (has_set result.set) s.items) 0) ≡ recorded_at s k result item b
  recorded_some true = parts s (has_set result.set) k stands (λ front rest. Makes (front ++ with_outcome result.job result.success item ∷ behind_it s.manager s.next rest) (sets_behind s.manager rest))
  recorded_some false = parts s (has_set result.set) k stands (λ front rest. Makes (front ++ with_outcome result.job result.success item ∷ rest) 0)

  ended_some : (o : Option (List ℕ × Option Bool)) → ended s result item o ≡ ended_at s k result item o
  ended_some None = refl
  ended_some (Some (name, Some success)) = refl
  ended_some (Some (name, None)) = recorded_some (is_first_failure result.success item)

pub results_at : (s : State) (result : JobResult) (k : ℕ) (d : QueueItem) → Some k ≡ position (has_set result.set) s.items → resulted s result (find (has_set result.set) s.items) ≡ ended_at s k result (get_or s.items k d) (find (is_job result.job) (get_or s.items k d).jobs)
results_at s result k d e =
    let stands : Stands (find (has_set result.set) s.items) (before (has_set result.set) s.items) (behind (has_set result.set) s.items) s.items k = stands_at (has_set result.set) s.items k e in
    ap (resulted s result) (found s (has_set result.set) k stands d)
    ∙ ended_some s result k (get_or s.items k d) stands (find (is_job result.job) (get_or s.items k d).jobs)

pub results_nothing : (s : State) (result : JobResult) → None ≡ position (has_set result.set) s.items → resulted s result (find (has_set result.set) s.items) ≡ Refuses NotCurrent
results_nothing s result e = ap (resulted s result) (stands_nowhere (has_set result.set) s.items e)

-- ---- triggers

abbrev pub nothing : Option Discard
nothing = None

pub places_last : (s : State) (key : Key) (patchset : ℤ) (jobs : List (List ℕ)) → None ≡ position (is_of key) s.items → placing s key patchset jobs (find (is_of key) s.items) ≡ placed_last s key patchset jobs
places_last s key patchset jobs e = ap (placing s key patchset jobs) (stands_nowhere (is_of key) s.items e)

module _ (s : State) (key : Key) (patchset : ℤ) (jobs : List (List ℕ)) (k : ℕ) (d : QueueItem) (e : Some k ≡ position (is_of key) s.items) where
  stands : Stands (find (is_of key) s.items) (before (is_of key) s.items) (behind (is_of key) s.items) s.items k
  stands = stands_at (is_of key) s.items k e

  is_replacing : placing s key patchset jobs (find (is_of key) s.items) ≡ replacing s key patchset jobs (get_or s.items k d)
  is_replacing = ap (placing s key patchset jobs) (found s (is_of key) k stands d)

  abbrev newer : Plan
  newer = Makes
      (before (is_of key) s.items ++ behind_it s.manager s.next (behind (is_of key) s.items)
      ++ new_item key patchset (s.next + sets_behind s.manager (behind (is_of key) s.items)) jobs ∷ [])
      (sets_behind s.manager (behind (is_of key) s.items) + 1)

  abbrev chosen : Bool → Bool → Plan
  chosen same lower = cond same (Refuses Known) (cond lower (Refuses Older) newer)

  refused_by : (same lower : Bool) (why : Discard) → Some why ≡ cond same (Some Known) (cond lower (Some Older) None) → chosen same lower ≡ Refuses why
  refused_by true lower why e = cc
  refused_by false true why e = cc
  refused_by false false why e = cc

  newer_by : (same lower : Bool) → nothing ≡ cond same (Some Known) (cond lower (Some Older) None) → chosen same lower ≡ newer
  newer_by true lower e = cc
  newer_by false true e = cc
  newer_by false false e = refl

  pub is_refused : (why : Discard) → Some why ≡ why_not patchset (get_or s.items k d).patchset → placing s key patchset jobs (find (is_of key) s.items) ≡ Refuses why
  is_refused why e = is_replacing ∙ refused_by (int_eq patchset (get_or s.items k d).patchset) (int_lt patchset (get_or s.items k d).patchset) why e

  pub is_newer : nothing ≡ why_not patchset (get_or s.items k d).patchset → placing s key patchset jobs (find (is_of key) s.items) ≡ replaced_at s k key patchset jobs
  is_newer e =
      is_replacing ∙ newer_by (int_eq patchset (get_or s.items k d).patchset) (int_lt patchset (get_or s.items k d).patchset) e
      ∙ parts s (is_of key) k stands (λ front rest. Makes (front ++ behind_it s.manager s.next rest ++ new_item key patchset (s.next + sets_behind s.manager rest) jobs ∷ []) (sets_behind s.manager rest + 1))

  pub is_inside : k < length s.items
  is_inside = stands.inside

-- a trigger with a key and jobs
some_jobs : (s : State) (key : Key) (patchset : ℤ) (jobs : List (List ℕ)) → (length jobs ≡ 0 → ⊥) → triggered s (Some key) patchset jobs ≡ placing s key patchset jobs (find (is_of key) s.items)
some_jobs s key patchset [] h = absurd (h refl)
some_jobs s key patchset (job ∷ jobs) h = refl

pub triggers_by : (s : State) (o : Option Key) (key : Key) (patchset : ℤ) (jobs : List (List ℕ)) (p : Plan) → o ≡ Some key → (length jobs ≡ 0 → ⊥) → placing s key patchset jobs (find (is_of key) s.items) ≡ p → triggered s o patchset jobs ≡ p
triggers_by s o key patchset jobs p is h e = ap (λ k. triggered s k patchset jobs) is ∙ some_jobs s key patchset jobs h ∙ e

-- an answer by one plan is one by an equal plan
pub does_by : (s new : State) (p q : Plan) (answer : Result Outcome Memory) → q ≡ p → Does s (changed s p) new answer → Does s (changed s q) new answer
does_by s new p q answer e h = subst (λ r. Does s (changed s r) new answer) (sym e) h

pub found_at : (test : QueueItem → Bool) (items : List QueueItem) (k : ℕ) → Some k ≡ position test items → ItemAt items k
found_at test items k e = item_at items k (stands_at test items k e).inside

-- ---- an outcome that renews nothing

fits_by : (b : Bool) (n : ℕ) → (b ≡ false → 2 ^ 64 ≤ n + 0) → n < 2 ^ 64 → cond b (Some (n + 0)) None ≡ Some n
fits_by true n above h = let same : n + 0 ≡ n = omega arith in ap (λ m. Some m) same
fits_by false n above h = absurd (omega (arith, above refl, h))

fits_now : (n : ℕ) → n < 2 ^ 64 → fitting (n + 0) ≡ Some n
fits_now n h = fits_by (nat_lt (n + 0) (2 ^ 64)) n (ltb-false (n + 0) (2 ^ 64)) h

kept : (s : State) (k : ℕ) (result : JobResult) (item : QueueItem) (items : List QueueItem) → s.next < 2 ^ 64 → k < length s.items → items ≡ set s.items k (with_outcome result.job result.success item) → (record { manager = s.manager; next = s.next; items = items; reported = s.reported }, Applied) ≡ changed s (recorded_at s k result item false)
kept s k result item items h inside e =
    let one : suc k ≡ k + 1 = omega arith in
    let same : items ≡ take k s.items ++ with_outcome result.job result.success item ∷ drop (k + 1) s.items = e ∙ set_split s.items k (with_outcome result.job result.success item) inside ∙ ap (λ n. take k s.items ++ with_outcome result.job result.success item ∷ drop n s.items) one in
    ap (λ l. changed_to s l (Some s.next)) same
    ∙ ap (changed_to s (take k s.items ++ with_outcome result.job result.success item ∷ drop (k + 1) s.items)) (sym (fits_now s.next h))

pub not_renewed : (s : State) (k : ℕ) (result : JobResult) (item : QueueItem) (b : Bool) (items : List QueueItem) → b ≡ false → s.next < 2 ^ 64 → k < length s.items → items ≡ set s.items k (with_outcome result.job result.success item) → (record { manager = s.manager; next = s.next; items = items; reported = s.reported }, Applied) ≡ changed s (recorded_at s k result item b)
not_renewed s k result item b items quiet h inside e = kept s k result item items h inside e ∙ ap (λ c. changed s (recorded_at s k result item c)) (sym quiet)

pub judged_as : (s : State) (key : Key) (z patchset : ℤ) (jobs : List (List ℕ)) (r q : Result (Option ℕ) Discard) → z ≡ patchset → r ≡ q → Judges s key z jobs r → Judges s key patchset jobs q
judged_as s key z patchset jobs r q e f h = subst (λ o. Judges s key patchset jobs o) f (subst (λ y. Judges s key y jobs r) e h)

-- the plan of a trigger whose patch set is at hand as a machine word: a new item comes last, or one takes the place of an older one
pub triggers_last : (s : State) (o : Option Key) (key : Key) (z patchset : ℤ) (jobs : List (List ℕ)) (r : Result (Option ℕ) Discard) → z ≡ patchset → o ≡ Some key → (length jobs ≡ 0 → ⊥) → r ≡ Ok None → Judges s key z jobs r → triggered s o patchset jobs ≡ placed_last s key z jobs
triggers_last s o key z patchset jobs r word is some answers judges =
    triggers_by s o key patchset jobs (placed_last s key patchset jobs) is some (judged_as s key z patchset jobs r (Ok None) word answers judges)
    ∙ ap (λ y. placed_last s key y jobs) (sym word)

pub triggers_at : (s : State) (o : Option Key) (key : Key) (z patchset : ℤ) (jobs : List (List ℕ)) (r : Result (Option ℕ) Discard) (k : ℕ) → z ≡ patchset → o ≡ Some key → (length jobs ≡ 0 → ⊥) → r ≡ Ok (Some k) → Judges s key z jobs r → triggered s o patchset jobs ≡ replaced_at s k key z jobs
triggers_at s o key z patchset jobs r k word is some answers judges =
    triggers_by s o key patchset jobs (replaced_at s k key patchset jobs) is some (judged_as s key z patchset jobs r (Ok (Some k)) word answers judges).1
    ∙ ap (λ y. replaced_at s k key y jobs) (sym word)

-- ---- memory that is refused

pub refused_by_plan : (s : State) (p q : Plan) (answer : Result Outcome Memory) → q ≡ p → OnErr answer ((changed s p).1 ≡ Applied) → OnErr answer ((changed s q).1 ≡ Applied)
refused_by_plan s p q answer e h = subst (λ r. OnErr answer ((changed s r).1 ≡ Applied)) (sym e) h
