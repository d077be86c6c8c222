-- What is printed of a step: a line for each answer.
use Rattle.std.specs.Prelude.{ℕ, List, ◌++◌, Option, Some, None, codes, decimal}
use Rattle.gate_record.specs.declared.ids.Stamp.{Stamp}
use Rattle.gate_items.specs.declared.action.Action.{Action}
use Rattle.gate_items.specs.declared.action.Action.TheVariants as action
use Rattle.gate_items.specs.declared.action.Manage.TheVariants as manage
use Rattle.gate_items.specs.declared.action.Outcome.{Outcome}
use Rattle.gate_items.specs.declared.action.Outcome.TheVariants as outcome
use Rattle.gate_items.specs.Words.{discard_word}
use Rattle.gate_line.specs.Words.{spaced_number}
use Rattle.gate_core.specs.declared.answer.Answer.{Answer}
use Rattle.gate_core.specs.declared.answer.Answer.TheVariants as answer

abbrev pub outcome_text : Outcome → List ℕ
outcome_text outcome.Applied = codes " applied\n"
outcome_text (outcome.Discarded why) = codes " discarded " ++ (discard_word why ++ codes "\n")

abbrev pub stamp_text : Stamp → List ℕ
stamp_text stamp = codes "trigger" ++ (spaced_number stamp.conn.0 ++ spaced_number stamp.number)

-- what was processed: a trigger event by its stamp, a result by its build set
abbrev pub action_text : Option Stamp → Action → List ℕ
action_text (Some stamp) action = stamp_text stamp
action_text None (action.Manage (manage.Dequeue key)) = codes "dequeue"
action_text None (action.Manage (manage.Reset key)) = codes "reset"
action_text None (action.Result ended) = codes "result" ++ spaced_number ended.set
action_text None (action.Trigger key patchset jobs) = codes "trigger"

abbrev pub turned_line : Option Stamp → Action → Outcome → List ℕ
turned_line stamp action outcome = codes "turned " ++ (action_text stamp action ++ outcome_text outcome)

abbrev pub answer_line : Answer → List ℕ
answer_line (answer.Accepted n) = codes "accepted " ++ decimal n ++ codes "\n"
answer_line answer.Closed = codes "closed\n"
answer_line answer.Full = codes "full\n"
answer_line answer.Moved = codes "moved\n"
answer_line answer.Idle = codes "idle\n"
answer_line (answer.Turned stamp action outcome) = turned_line stamp action outcome
answer_line answer.Passed = codes "passed\n"
