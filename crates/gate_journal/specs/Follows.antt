-- What a pipeline's journal knows after the actions that it was told of.
use Rattle.std.specs.Prelude.{◌≡◌, List, length}
use Rattle.std.specs.BTreeMap.{get}
use Rattle.gate_record.specs.declared.ids.ManagerKind.{ManagerKind}
use Rattle.gate_record.specs.declared.ids.ManagerKind.TheVariants.{Independent, Dependent}
use Rattle.gate_items.specs.declared.action.Action.{Action}
use Rattle.gate_items.specs.declared.key.Key.{Key}
use Rattle.gate_items.specs.History.{after, start}
use Rattle.gate_items.specs.KeyOrder.{key_cmp}
use Rattle.gate_items.specs.Machine.{State}
use Rattle.gate_items.specs.Sets.{set_under, sets_of}
use Rattle.gate_journal.specs.declared.live.Live.{Live}
use Rattle.gate_journal.specs.declared.live.Live.TheVariants.{Keys, Queue}
use Rattle.gate_journal.specs.declared.pipeline_journal.PipelineJournal.{PipelineJournal}

-- the items after these actions, where build sets are numbered from 0
abbrev pub items_after : ManagerKind → List Action → State
items_after manager actions = after (start manager 0) actions

-- These are the build sets of the items: from front to back in a dependent pipeline, by the keys of the items in an independent
-- one.
abbrev pub AreLive : Live → ManagerKind → State → Type 0
AreLive (Queue sets) manager s = (manager ≡ Dependent) × (sets.items ≡ sets_of s.items)
AreLive (Keys sets) manager s = (manager ≡ Independent) × ((key : Key) → get key_cmp sets key ≡ set_under s key)

-- The journal knows the build sets of the items of a pipeline with this manager, the number of the next build set, and how many
-- reports there are.
pub record Knows (journal : PipelineJournal) (manager : ManagerKind) (s : State) : Type 0 where
  pub live : AreLive journal.live manager s
  pub next : journal.next ≡ s.next
  pub reports : journal.reports ≡ length s.reported
