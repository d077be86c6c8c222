-- When the answers that are known about a batch are right.
use Rattle.std.specs.Prelude.{◌≡◌, ℕ, List, Bool, length, map}
use Rattle.std.specs.List.{All, range_with_len}
use Rattle.std.specs.BTreeMap.{values}
use Rattle.gate_record.specs.declared.event.Event.{Event}
use Rattle.gate_intern.specs.Columns.{approval_cells_of}
use Rattle.gate_lanes.specs.Masks.{is_in_row}
use Rattle.gate_match_rules.specs.declared.answers.Answer.{Answer}
use Rattle.gate_match_rules.specs.declared.answers.Answers.{Answers}
use Rattle.gate_match_rules.specs.declared.given.Given.{Given}
use Rattle.gate_match_rules.specs.declared.given.Approvals.{Approvals}
use Rattle.gate_match_rules.specs.Finding.{HoldsOfEntry, met_in}

-- what the entries ask to which an answer belongs
abbrev pub asked_in : Answer → List ℕ × Bool
asked_in answer = (answer.text.now, answer.negate)

-- The rows are those whose field meets the entries that ask this.
abbrev pub IsRight : List Event → Answer → Type 0
IsRight events answer = HoldsOfEntry (asked_in answer) (λ entry. answer.rows ≡ met_in answer.field entry events)

-- The rows are those that have the number in one of their cells.
abbrev pub IsGiven : List Event → Given → Type 0
IsGiven events given = given.rows ≡ map (is_in_row (approval_cells_of events) (length events) given.number) (range_with_len 0 (length events))

abbrev pub AreGiven : List Event → Approvals → Type 0
AreGiven events approvals = All (IsGiven events) (values approvals.known)

abbrev pub AreRight : List Event → Answers → Type 0
AreRight events answers = All (IsRight events) answers.known.items × AreGiven events answers.approvals
