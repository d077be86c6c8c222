-- The items of a pipeline, and what each action does to them.
use Rattle.std.specs.Prelude.{int_lt, ◌+◌, ◌^◌, ◌&&◌, ℕ, ℤ, List, [], ◌∷◌, ◌++◌, Bool, false, not, length, map, nat_eq, nat_lt, Option, Some, None, is_some, if◌then◌else◌}
use Rattle.std.specs.List.{filter, find, list_all, list_any}
use Rattle.std.specs.Ordering.{int_eq}
use Rattle.std.specs.Str.{bytes_eq}
use Rattle.gate_record.specs.declared.ids.ManagerKind.{ManagerKind}
use Rattle.gate_record.specs.declared.ids.ManagerKind.TheVariants.{Independent, Dependent}
use Rattle.gate_items.specs.declared.action.Action.{Action}
use Rattle.gate_items.specs.declared.action.Action.TheVariants as action
use Rattle.gate_items.specs.declared.action.Manage.TheVariants as manage
use Rattle.gate_items.specs.declared.action.JobResult.{JobResult}
use Rattle.gate_items.specs.declared.action.Discard.{Discard}
use Rattle.gate_items.specs.declared.action.Discard.TheVariants.{NoKey, NoJobs, Known, Older, NotCurrent, NoJob, Repeated, NoItem, Numbers}
use Rattle.gate_items.specs.declared.action.Outcome.{Outcome}
use Rattle.gate_items.specs.declared.action.Outcome.TheVariants.{Applied, Discarded}
use Rattle.gate_items.specs.declared.item.QueueItem.{QueueItem}
use Rattle.gate_items.specs.declared.item.Report.{Report}
use Rattle.gate_items.specs.declared.key.Key.{Key}
use Rattle.gate_items.specs.Keys.{is_same}

-- The items of a pipeline from first to last, the reports of the items that left, and the number that the next build set gets.
pub record State : Type 0 where
  pub manager : ManagerKind
  pub next : ℕ
  pub items : List QueueItem
  pub reported : List Report

-- ---- items and build sets

-- a job without an outcome
abbrev pub open_job : List ℕ × Option Bool → List ℕ × Option Bool
open_job job = (job.0, None)

-- the item with a new build set of this number, whose jobs have no outcome
abbrev pub with_set : ℕ → QueueItem → QueueItem
with_set set item = record { key = item.key; patchset = item.patchset; set = set; jobs = map open_job item.jobs }

-- the items with new build sets, numbered in order from `next`
abbrev pub renewed : ℕ → List QueueItem → List QueueItem
renewed next [] = []
renewed next (item ∷ items) = with_set next item ∷ renewed (next + 1) items

-- the items behind a removal, a reset or a failure; `sets_behind` is how many new build sets they get
abbrev pub behind_it : ManagerKind → ℕ → List QueueItem → List QueueItem
behind_it Independent next items = items
behind_it Dependent next items = renewed next items

abbrev pub sets_behind : ManagerKind → List QueueItem → ℕ
sets_behind Independent items = 0
sets_behind Dependent items = length items

-- the item of a trigger, whose jobs have no outcome
abbrev pub new_item : Key → ℤ → ℕ → List (List ℕ) → QueueItem
new_item key patchset set jobs = record { key = key; patchset = patchset; set = set; jobs = map (λ job. (job, None)) jobs }

abbrev pub is_of : Key → QueueItem → Bool
is_of key item = is_same item.key key

abbrev pub has_set : ℕ → QueueItem → Bool
has_set set item = nat_eq item.set set

-- the items before the first one that passes the test; `behind` has the items behind that one
abbrev pub before : (QueueItem → Bool) → List QueueItem → List QueueItem
before test [] = []
before test (item ∷ items) = if test item then [] else item ∷ before test items

abbrev pub behind : (QueueItem → Bool) → List QueueItem → List QueueItem
behind test [] = []
behind test (item ∷ items) = if test item then items else behind test items

-- ---- outcomes of jobs

abbrev pub is_job : List ℕ → List ℕ × Option Bool → Bool
is_job name job = bytes_eq job.0 name

abbrev pub has_failed : List ℕ × Option Bool → Bool
has_failed (name, Some success) = not success
has_failed (name, None) = false

abbrev pub has_ended : List ℕ × Option Bool → Bool
has_ended job = is_some job.1

-- Each job of the item has an outcome.
abbrev pub is_complete : QueueItem → Bool
is_complete item = list_all has_ended item.jobs

abbrev pub record_at : List ℕ → Bool → List ℕ × Option Bool → List ℕ × Option Bool
record_at name success job = if is_job name job then (job.0, Some success) else job

abbrev pub with_outcome : List ℕ → Bool → QueueItem → QueueItem
with_outcome name success item = record { key = item.key; patchset = item.patchset; set = item.set; jobs = map (record_at name success) item.jobs }

-- The outcome is a failure, and no job of the build set has failed before.
abbrev pub is_first_failure : Bool → QueueItem → Bool
is_first_failure success item = not success && not (list_any has_failed item.jobs)

-- ---- reports

abbrev pub report_of : QueueItem → Report
report_of item = record { key = item.key; patchset = item.patchset; set = item.set; success = not (list_any has_failed item.jobs) }

-- The items that leave with a report: `leaving` are all complete items with an independent manager, and only those at the head
-- with a dependent one. `head_of` are the complete items at the head, and `rest_of` the items behind these.
abbrev pub head_of : List QueueItem → List QueueItem
head_of [] = []
head_of (item ∷ items) = if is_complete item then item ∷ head_of items else []

abbrev pub rest_of : List QueueItem → List QueueItem
rest_of [] = []
rest_of (item ∷ items) = if is_complete item then rest_of items else item ∷ items

abbrev pub leaving : ManagerKind → List QueueItem → List QueueItem
leaving Independent items = filter is_complete items
leaving Dependent items = head_of items

abbrev pub staying : ManagerKind → List QueueItem → List QueueItem
staying Independent items = filter (λ item. not (is_complete item)) items
staying Dependent items = rest_of items

-- ---- actions

-- An action is discarded for a reason, or makes these items, before any are reported, and gives out so many numbers of build
-- sets.
pub data Plan : Type 0 where
  Refuses : (why : Discard) → Plan
  Makes : (items : List QueueItem) → (sets : ℕ) → Plan

-- The older patch set's item is taken out, and the new item goes last.
abbrev pub replacing : State → Key → ℤ → List (List ℕ) → QueueItem → Plan
replacing s key patchset jobs item =
    if int_eq patchset item.patchset then Refuses Known
    else (if int_lt patchset item.patchset then Refuses Older
    else Makes
    (before (is_of key) s.items ++ behind_it s.manager s.next (behind (is_of key) s.items)
    ++ new_item key patchset (s.next + sets_behind s.manager (behind (is_of key) s.items)) jobs ∷ [])
    (sets_behind s.manager (behind (is_of key) s.items) + 1))

abbrev pub placing : State → Key → ℤ → List (List ℕ) → Option QueueItem → Plan
placing s key patchset jobs None = Makes (s.items ++ new_item key patchset s.next jobs ∷ []) 1
placing s key patchset jobs (Some item) = replacing s key patchset jobs item

abbrev pub triggered : State → Option Key → ℤ → List (List ℕ) → Plan
triggered s None patchset jobs = Refuses NoKey
triggered s (Some key) patchset [] = Refuses NoJobs
triggered s (Some key) patchset (job ∷ jobs) = placing s key patchset (job ∷ jobs) (find (is_of key) s.items)

-- The outcome is recorded. The first failure of an item renews the items behind it.
abbrev pub recorded : State → JobResult → QueueItem → Plan
recorded s result item =
    if is_first_failure result.success item then Makes
    (before (has_set result.set) s.items ++ with_outcome result.job result.success item ∷ behind_it s.manager s.next (behind (has_set result.set) s.items))
    (sets_behind s.manager (behind (has_set result.set) s.items))
    else Makes
    (before (has_set result.set) s.items ++ with_outcome result.job result.success item ∷ behind (has_set result.set) s.items)
    0

abbrev pub ended : State → JobResult → QueueItem → Option (List ℕ × Option Bool) → Plan
ended s result item None = Refuses NoJob
ended s result item (Some (name, Some success)) = Refuses Repeated
ended s result item (Some (name, None)) = recorded s result item

abbrev pub resulted : State → JobResult → Option QueueItem → Plan
resulted s result None = Refuses NotCurrent
resulted s result (Some item) = ended s result item (find (is_job result.job) item.jobs)

abbrev pub dequeued : State → Key → Option QueueItem → Plan
dequeued s key None = Refuses NoItem
dequeued s key (Some item) = Makes
    (before (is_of key) s.items ++ behind_it s.manager s.next (behind (is_of key) s.items))
    (sets_behind s.manager (behind (is_of key) s.items))

abbrev pub reset : State → Key → Option QueueItem → Plan
reset s key None = Refuses NoItem
reset s key (Some item) = Makes
    (before (is_of key) s.items ++ with_set s.next item ∷ behind_it s.manager (s.next + 1) (behind (is_of key) s.items))
    (sets_behind s.manager (behind (is_of key) s.items) + 1)

abbrev pub plan : State → Action → Plan
plan s (action.Trigger key patchset jobs) = triggered s key patchset jobs
plan s (action.Result result) = resulted s result (find (has_set result.set) s.items)
plan s (action.Manage (manage.Dequeue key)) = dequeued s key (find (is_of key) s.items)
plan s (action.Manage (manage.Reset key)) = reset s key (find (is_of key) s.items)

-- The state after a plan. A plan is carried out only if the next number after those that it gives out still fits a `u64`.
-- Complete items are then reported and leave.
abbrev pub after_plan : State → Plan → State × Outcome
after_plan s (Refuses why) = (s, Discarded why)
after_plan s (Makes items sets) =
    if nat_lt (s.next + sets) (2 ^ 64) then (
      record {
        manager = s.manager;
        next = s.next + sets;
        items = staying s.manager items;
        reported = s.reported ++ map report_of (leaving s.manager items);
      },
      Applied,
    ) else (s, Discarded Numbers)

-- the state after an action, and the action's outcome
abbrev pub apply : State → Action → State × Outcome
apply s action = after_plan s (plan s action)
