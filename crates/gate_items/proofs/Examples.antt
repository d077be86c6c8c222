-- Worked examples: the definitions compute what they say.
use Rattle.std.proofs.Common.{◌≡◌, ℕ, List, [], ◌∷◌, Bool, Option, Some, None, true, false, refl, codes}
use Rattle.std.specs.Prelude.{pos}
use Rattle.gate_record.specs.declared.ids.ManagerKind.{ManagerKind}
use Rattle.gate_record.specs.declared.ids.ManagerKind.TheVariants.{Independent, Dependent}
use Rattle.gate_items.specs.declared.action.Action.{Action}
use Rattle.gate_items.specs.declared.action.Action.TheVariants as action
use Rattle.gate_items.specs.declared.action.Discard.TheVariants.{NoItem, NoJob, NoJobs, NoKey, Known, NotCurrent, Numbers, Older, Repeated}
use Rattle.gate_items.specs.declared.action.Manage.TheVariants as manage
use Rattle.gate_items.specs.declared.action.Outcome.{Outcome}
use Rattle.gate_items.specs.declared.action.Outcome.TheVariants.{Applied, Discarded}
use Rattle.gate_items.specs.declared.item.QueueItem.{QueueItem}
use Rattle.gate_items.specs.declared.item.Report.{Report}
use Rattle.gate_items.specs.declared.key.Key.{Key}
use Rattle.gate_items.specs.declared.key.Key.TheVariants as key
use Rattle.gate_items.specs.Machine.{State, apply}
use Rattle.gate_items.specs.History.{after, start}

abbrev change : ℕ → Key
change n = key.Change (record { 0 = 0 }) (pos n)

abbrev trigger : ℕ → ℕ → List (List ℕ) → Action
trigger n patchset jobs = action.Trigger (Some (change n)) (pos patchset) jobs

abbrev result : ℕ → List ℕ → Bool → Action
result set job success = action.Result (record { set = set; job = job; success = success })

abbrev item : ℕ → ℕ → ℕ → List (List ℕ × Option Bool) → QueueItem
item n patchset set jobs = record { key = change n; patchset = pos patchset; set = set; jobs = jobs }

abbrev report : ℕ → ℕ → ℕ → Bool → Report
report n patchset set success = record { key = change n; patchset = pos patchset; set = set; success = success }

abbrev outcomes : State → List Action → List Outcome
outcomes s [] = []
outcomes s (action ∷ actions) = (apply s action).1 ∷ outcomes (apply s action).0 actions

-- the actions from no items on have these outcomes, and leave these items and reports
record Example (manager : ManagerKind) (first : ℕ) (actions : List Action) (told : List Outcome) (items : List QueueItem) (reports : List Report) : Type 0 where
  answers : outcomes (start manager first) actions ≡ told
  leaves : (after (start manager first) actions).items ≡ items
  says : (after (start manager first) actions).reported ≡ reports

abbrev build : List ℕ
build = codes "build"

abbrev lint : List ℕ
lint = codes "lint"

a_late_result : Example Independent 0
    (trigger 7 1 (build ∷ lint ∷ []) ∷ action.Manage (manage.Reset (change 7)) ∷ result 0 build false ∷ result 1 build true ∷ result 1 build true ∷ result 1 (codes "docs") true ∷ [])
    (Applied ∷ Applied ∷ Discarded NotCurrent ∷ Applied ∷ Discarded Repeated ∷ Discarded NoJob ∷ [])
    (item 7 1 1 ((build, Some true) ∷ (lint, None) ∷ []) ∷ []) []
a_late_result = record { answers = refl; leaves = refl; says = refl }

patch_sets : Example Independent 0
    (trigger 7 1 (build ∷ []) ∷ trigger 7 2 (build ∷ []) ∷ trigger 7 1 (build ∷ []) ∷ trigger 7 2 (build ∷ []) ∷ action.Trigger None (pos 1) (build ∷ []) ∷ trigger 8 1 [] ∷ [])
    (Applied ∷ Applied ∷ Discarded Older ∷ Discarded Known ∷ Discarded NoKey ∷ Discarded NoJobs ∷ [])
    (item 7 2 1 ((build, None) ∷ []) ∷ []) []
patch_sets = record { answers = refl; leaves = refl; says = refl }

a_failure_in_a_queue : Example Dependent 0
    (trigger 1 1 (build ∷ lint ∷ []) ∷ trigger 2 1 (build ∷ lint ∷ []) ∷ trigger 3 1 (build ∷ lint ∷ []) ∷ result 0 build false ∷ result 1 build true ∷ result 0 lint true ∷ [])
    (Applied ∷ Applied ∷ Applied ∷ Applied ∷ Discarded NotCurrent ∷ Applied ∷ [])
    (item 2 1 3 ((build, None) ∷ (lint, None) ∷ []) ∷ item 3 1 4 ((build, None) ∷ (lint, None) ∷ []) ∷ [])
    (report 1 1 0 false ∷ [])
a_failure_in_a_queue = record { answers = refl; leaves = refl; says = refl }

reports_from_the_head : Example Dependent 0
    (trigger 1 1 (build ∷ []) ∷ trigger 2 1 (build ∷ []) ∷ result 1 build true ∷ result 0 build true ∷ [])
    (Applied ∷ Applied ∷ Applied ∷ Applied ∷ []) [] (report 1 1 0 true ∷ report 2 1 1 true ∷ [])
reports_from_the_head = record { answers = refl; leaves = refl; says = refl }

each_alone : Example Independent 0
    (trigger 1 1 (build ∷ []) ∷ trigger 2 1 (build ∷ []) ∷ result 1 build true ∷ [])
    (Applied ∷ Applied ∷ Applied ∷ []) (item 1 1 0 ((build, None) ∷ []) ∷ []) (report 2 1 1 true ∷ [])
each_alone = record { answers = refl; leaves = refl; says = refl }

dequeued_and_back : Example Independent 0
    (trigger 7 1 (build ∷ []) ∷ action.Manage (manage.Dequeue (change 7)) ∷ trigger 7 1 (build ∷ []) ∷ result 0 build true ∷ action.Manage (manage.Dequeue (change 9)) ∷ [])
    (Applied ∷ Applied ∷ Applied ∷ Discarded NotCurrent ∷ Discarded NoItem ∷ []) (item 7 1 1 ((build, None) ∷ []) ∷ []) []
dequeued_and_back = record { answers = refl; leaves = refl; says = refl }

the_last_number : Example Independent 18446744073709551614
    (trigger 1 1 (build ∷ []) ∷ trigger 2 1 (build ∷ []) ∷ [])
    (Applied ∷ Discarded Numbers ∷ []) (item 1 1 18446744073709551614 ((build, None) ∷ []) ∷ []) []
the_last_number = record { answers = refl; leaves = refl; says = refl }

-- a newer patch set takes the older one's item out, and what stood behind gets its build sets before the new item
replaced_in_a_queue : Example Dependent 5
    (trigger 1 1 (build ∷ []) ∷ trigger 2 1 (build ∷ []) ∷ trigger 1 2 (build ∷ lint ∷ []) ∷ action.Manage (manage.Reset (change 2)) ∷ [])
    (Applied ∷ Applied ∷ Applied ∷ Applied ∷ [])
    (item 2 1 9 ((build, None) ∷ []) ∷ item 1 2 10 ((build, None) ∷ (lint, None) ∷ []) ∷ []) []
replaced_in_a_queue = record { answers = refl; leaves = refl; says = refl }
