-- The queue of a pipeline, as a reader of its journal rebuilds it: from the facts alone, one after another.
use Rattle.std.specs.Prelude.{◌≡◌, ℕ, List, [], ◌∷◌, ◌++◌, Option, Some, None, not, map, if◌then◌else◌}
use Rattle.std.specs.List.{filter, filter_map, fold, list_any}
use Rattle.gate_record.specs.declared.ids.ManagerKind.{ManagerKind}
use Rattle.gate_record.specs.declared.ids.Stamp.{Stamp}
use Rattle.gate_items.specs.declared.action.Action.{Action}
use Rattle.gate_items.specs.declared.action.JobResult.{JobResult}
use Rattle.gate_items.specs.declared.item.QueueItem.{QueueItem}
use Rattle.gate_items.specs.declared.item.Report.{Report}
use Rattle.gate_items.specs.History.{after, start}
use Rattle.gate_items.specs.Machine.{has_set, is_of, with_outcome}
use Rattle.gate_journal.specs.declared.cause.CancelCause.{CancelCause}
use Rattle.gate_journal.specs.declared.cause.CancelCause.TheVariants.{Newer, Removed, Reset, Ahead}
use Rattle.gate_journal.specs.Facts.{Fact, begins, begun_item, cancels, discards, facts_after, reports, results}

-- A result gives its job an outcome, in the item that has the result's build set.
abbrev pub with_result : JobResult → QueueItem → QueueItem
with_result result item = if has_set result.set item then with_outcome result.job result.success item else item

-- the items but the one that has this build set
abbrev pub without : ℕ → List QueueItem → List QueueItem
without set items = filter (λ item. not (has_set set item)) items

-- An item leaves if a newer patch set takes its place, or if it is dequeued. Else it keeps its place for the build set that begins next
-- for its key.
abbrev pub with_cancelled : CancelCause → ℕ → List QueueItem → List QueueItem
with_cancelled Newer set items = without set items
with_cancelled Removed set items = without set items
with_cancelled Reset set items = items
with_cancelled Ahead set items = items

abbrev pub in_place : QueueItem → QueueItem → QueueItem
in_place new item = if is_of new.key item then new else item

-- A build set that begins stands where its key stands in the queue. A new key goes last.
abbrev pub with_begun : QueueItem → List QueueItem → List QueueItem
with_begun new items = if list_any (is_of new.key) items then map (in_place new) items else items ++ new ∷ []

-- what a fact makes of the queue
abbrev pub queue_after : List QueueItem → Fact → List QueueItem
queue_after items (results result) = map (with_result result) items
queue_after items (cancels cause set) = with_cancelled cause set items
queue_after items (begins stamp build) = with_begun (begun_item build) items
queue_after items (reports report) = without report.set items
queue_after items (discards stamp action why) = items

abbrev pub queue_of : List Fact → List QueueItem
queue_of facts = fold queue_after [] facts

abbrev pub reported_by : Fact → Option Report
reported_by (reports report) = Some report
reported_by other = None

abbrev pub actions_of : List (Option Stamp × Action) → List Action
actions_of told = map (λ (one : Option Stamp × Action). one.1) told

-- Whatever the actions of a pipeline are: the facts of its journal give back its queue, item by item and in order, each with its key, its
-- patch set, its build set and its jobs with their outcomes. They give back the reports, too.
pub record FactsTellTheQueue : Type 0 where
  pub queue : (manager : ManagerKind) (told : List (Option Stamp × Action)) → queue_of (facts_after (start manager 0) told) ≡ (after (start manager 0) (actions_of told)).items
  pub reported : (manager : ManagerKind) (told : List (Option Stamp × Action)) → filter_map reported_by (facts_after (start manager 0) told) ≡ (after (start manager 0) (actions_of told)).reported
