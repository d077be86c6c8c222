-- What the lines of a journal say: each line is the text of one fact.
use Rattle.std.specs.Prelude.{◌≡◌, ◌≤◌, ◌+◌, ◌==◌, ℕ, ℤ, Bool, List, [], ◌∷◌, ◌++◌, Option, Some, None, flat_map, map, if◌then◌else◌}
use Rattle.std.specs.List.{filter_map}
use Rattle.gate_record.specs.declared.ids.ManagerKind.{ManagerKind}
use Rattle.gate_record.specs.declared.ids.Stamp.{Stamp}
use Rattle.gate_config.specs.declared.config.Config.{Config}
use Rattle.gate_items.specs.declared.action.Action.{Action}
use Rattle.gate_items.specs.declared.action.Action.TheVariants as action
use Rattle.gate_items.specs.declared.action.Discard.{Discard}
use Rattle.gate_items.specs.declared.action.JobResult.{JobResult}
use Rattle.gate_items.specs.declared.action.Outcome.{Outcome}
use Rattle.gate_items.specs.declared.action.Outcome.TheVariants.{Applied, Discarded}
use Rattle.gate_items.specs.declared.item.QueueItem.{QueueItem}
use Rattle.gate_items.specs.declared.item.Report.{Report}
use Rattle.gate_items.specs.declared.key.Key.{Key}
use Rattle.gate_items.specs.History.{start}
use Rattle.gate_items.specs.Machine.{State, apply, new_item}
use Rattle.gate_items.specs.Sets.{begun, cancelled, how_often, reported, sets_of}
use Rattle.gate_journal.specs.Causes.{own_cause}
use Rattle.gate_journal.specs.declared.cause.CancelCause.{CancelCause}
use Rattle.gate_journal.specs.declared.cause.CancelCause.TheVariants.{Ahead}
use Rattle.gate_journal.specs.Lines.{begin_line, cancel_line, discard_line, report_line, result_line}

-- a build set that begins, with the names of its jobs
pub record BuildSet : Type 0 where
  pub key : Key
  pub patchset : ℤ
  pub set : ℕ
  pub jobs : List (List ℕ)

-- the item that has the build set, before any of its jobs has an outcome
abbrev pub begun_item : BuildSet → QueueItem
begun_item build = new_item build.key build.patchset build.set build.jobs

abbrev pub build_set : QueueItem → BuildSet
build_set item = record { key = item.key; patchset = item.patchset; set = item.set; jobs = map (λ (job : List ℕ × Option Bool). job.0) item.jobs }

-- what a line says of a pipeline
pub data Fact : Type 0 where
  -- a job of a build set has this result
  results : JobResult → Fact
  -- this build set begins; the stamp is that of the trigger event, if the build set is of the trigger's own item
  begins : Option Stamp → BuildSet → Fact
  -- this build set is cancelled
  cancels : CancelCause → ℕ → Fact
  -- an item leaves with this report
  reports : Report → Fact
  -- this action is discarded
  discards : Option Stamp → Action → Discard → Fact

abbrev pub fact_line : Config → ℕ → ℕ → Fact → List ℕ
fact_line config t p (results result) = result_line config t p result
fact_line config t p (begins stamp build) = begin_line config t p stamp (begun_item build)
fact_line config t p (cancels cause set) = cancel_line config t p cause set
fact_line config t p (reports report) = report_line config t p report
fact_line config t p (discards stamp action why) = discard_line config t p stamp action why

-- ---- the facts of an action

abbrev pub result_facts : Action → List Fact
result_facts (action.Result result) = results result ∷ []
result_facts (action.Trigger key patchset jobs) = []
result_facts (action.Manage manage) = []

abbrev pub cancel_facts : Action → List ℕ → List Fact
cancel_facts action [] = []
cancel_facts action (set ∷ sets) = cancels (own_cause action) set ∷ map (cancels Ahead) sets

abbrev pub begin_facts : Option Stamp → ℕ → List QueueItem → List Fact
begin_facts stamp next items = map (λ (item : QueueItem). begins (if item.set + 1 == next then stamp else None) (build_set item)) items

-- The facts of an action that was processed, by the items before it and after it: first its result, then what it cancels, then what begins,
-- then what is reported. A discarded action is one fact.
abbrev pub facts_of : State → Option Stamp → Action → Outcome → State → List Fact
facts_of before stamp action (Discarded why) items = discards stamp action why ∷ []
facts_of before stamp action Applied items =
    result_facts action ++ (cancel_facts action (sets_of (cancelled before items)) ++ (begin_facts stamp items.next (begun before items) ++ map reports (reported before items)))

-- the facts of actions, one after another, each with its stamp
abbrev pub facts_after : State → List (Option Stamp × Action) → List Fact
facts_after s [] = []
facts_after s (one ∷ more) = facts_of s one.0 one.1 (apply s one.1).1 (apply s one.1).0 ++ facts_after (apply s one.1).0 more

-- the lines of an action that was processed
abbrev pub action_lines : Config → ℕ → ℕ → State → Option Stamp → Action → Outcome → State → List ℕ
action_lines config t p before stamp action outcome items = flat_map (fact_line config t p) (facts_of before stamp action outcome items)

-- ---- laws

-- the build set that begins
abbrev pub begun_by : Fact → Option ℕ
begun_by (begins stamp build) = Some build.set
begun_by other = None

-- the build set that is cancelled or reported
abbrev pub ended_by : Fact → Option ℕ
ended_by (cancels cause set) = Some set
ended_by (reports report) = Some report.set
ended_by other = None

-- Whatever the actions of a pipeline are: in its journal each build set begins at most once, and is cancelled or reported at most once, and
-- then it has begun before.
pub record FactsBeginAndEndOnce : Type 0 where
  pub one_begin : (manager : ManagerKind) (actions : List (Option Stamp × Action)) (set : ℕ) → how_often set (filter_map begun_by (facts_after (start manager 0) actions)) ≤ 1
  pub one_end : (manager : ManagerKind) (actions : List (Option Stamp × Action)) (set : ℕ) → how_often set (filter_map ended_by (facts_after (start manager 0) actions)) ≤ 1
  pub begun_before : (manager : ManagerKind) (actions : List (Option Stamp × Action)) (past rest : List Fact) (fact : Fact) (set : ℕ) →
      facts_after (start manager 0) actions ≡ past ++ fact ∷ rest → ended_by fact ≡ Some set → how_often set (filter_map begun_by past) ≡ 1
